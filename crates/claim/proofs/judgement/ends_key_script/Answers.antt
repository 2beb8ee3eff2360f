use Rattle.std.proofs.Common.{Some, None, [], ◌∷◌, sym, ◌∙◌}
use Rattle.std.proofs.lemmas.Bool.Decides.{Decides-eqb}
use Rattle.std.proofs.lemmas.Slice.Eq.{strip_prefix_is}
use Rattle.claim.proofs.Programs.{behind_hash, no_hash}
use Rattle.claim.proofs.judgement.ends_key_script.Goals as goal

pub returns-in-Some : goal.returns-in-Some
returns-in-Some c =
    let e = strip_prefix_is Decides-eqb c.args.bytes.now c.args.hash.now (Some c.in-Some.end) c.in-Some.ensures.cases in
    c.is_key_script_end.ensures ∙ sym (behind_hash c.args.bytes.now c.args.hash.now c.in-Some.end.now (136 ∷ 172 ∷ []) e)

pub returns-in-None : goal.returns-in-None
returns-in-None c = no_hash c.args.bytes.now c.args.hash.now (136 ∷ 172 ∷ []) (strip_prefix_is Decides-eqb c.args.bytes.now c.args.hash.now None c.in-None.ensures.cases)
