use Rattle.enforce_c.proofs.Noted.{noted_rows, refused_notes}
use Rattle.enforce_c.proofs.enforce_script_notes.Goals as goal

pub returns-in-Ok : goal.returns-in-Ok
returns-in-Ok c = noted_rows c.args.script.now c.args.notes.now c.in-Ok.found.items c.as_slice.result.now _ c.in-Ok.ensures c.as_slice.ensures.value c.write_notes.ensures

pub returns-in-Err : goal.returns-in-Err
returns-in-Err c = refused_notes c.args.script.now c.args.notes.now c.in-Err.refusal c.refuse_notes.result c.refuse_notes.new.answer c.in-Err.ensures c.refuse_notes.ensures.status c.refuse_notes.ensures.answer
