use Rattle.std.proofs.Common.{rules, ◌≡◌, ◌==◌, ◌<◌, ◌≤◌, length, false, ◌∷◌, sym, ◌∙◌, true}
use Rattle.forms.specs.Fillings.{filling_of}
use Rattle.book.specs.Penalties.{same_filling}
use Rattle.book.proofs.Alike.{mapped, missed, differs, ends, goes_on}
use Rattle.book.proofs.matching.same_slots.Goals as goal

pub returns-in_default : goal.returns-in_default
returns-in_default c =
    let nothing : length c.loop-slot.others.now ≡ 0 = search rules in
    let within : c.loop-slot.slot-index < length c.args.a.now = search rules in
    missed (λ x y. same_filling (filling_of x) (filling_of y)) c.args.a.now c.args.b.now c.loop-slot.slot-index _ c.slot-item.result c.loop-slot.others.now within c.slot-item.is nothing c.loop-slot.invariant
    ∙ sym (mapped same_filling filling_of filling_of c.args.a.now c.args.b.now)

pub returns-then-not-same_slot : goal.returns-then-not-same_slot
returns-then-not-same_slot c =
    let both : c.loop-slot.others.now ≡ c.in-Some.other.now ∷ c.in-Some.rest.now = search rules in
    let within : c.loop-slot.slot-index < length c.args.a.now = search rules in
    let unlike : same_filling (filling_of c.slot-item.result) (filling_of c.in-Some.other.now) ≡ false = search rules in
    differs (λ x y. same_filling (filling_of x) (filling_of y)) c.args.a.now c.args.b.now c.loop-slot.slot-index _ c.slot-item.result c.loop-slot.others.now c.in-Some.other.now c.in-Some.rest.now within
    c.slot-item.is both unlike c.loop-slot.invariant
    ∙ sym (mapped same_filling filling_of filling_of c.args.a.now c.args.b.now)

pub returns : goal.returns
returns c =
    let empty : c.is_empty.result ≡ (length c.loop-slot.others.now == 0) = search rules in
    let past : length c.args.a.now ≤ c.loop-slot.slot-index = search rules in
    empty
    ∙ ends (λ x y. same_filling (filling_of x) (filling_of y)) c.args.a.now c.args.b.now c.loop-slot.slot-index c.loop-slot.others.now past c.loop-slot.invariant
    ∙ sym (mapped same_filling filling_of filling_of c.args.a.now c.args.b.now)

pub loop-slot-preserved : goal.loop-slot-preserved
loop-slot-preserved c =
    let both : c.loop-slot.others.now ≡ c.in-Some.other.now ∷ c.in-Some.rest.now = search rules in
    let within : c.loop-slot.slot-index < length c.args.a.now = search rules in
    let alike : same_filling (filling_of c.slot-item.result) (filling_of c.in-Some.other.now) ≡ true = search rules in
    goes_on (λ x y. same_filling (filling_of x) (filling_of y)) c.args.a.now c.args.b.now c.loop-slot.slot-index _ c.slot-item.result c.loop-slot.others.now c.in-Some.other.now c.in-Some.rest.now within
    c.slot-item.is both alike c.loop-slot.invariant
