use Rattle.std.proofs.Common.{Some, None, sym, ◌∙◌}
use Rattle.std.proofs.lemmas.Bool.Decides.{Decides-eqb}
use Rattle.std.proofs.lemmas.Slice.Eq.{strip_prefix_is}
use Rattle.script.proofs.TokenBytes.{no_key, no_digest, at_end, one_byte, no_byte}
use Rattle.script.proofs.tokens.is_token_of.Goals as goal

pub returns-then-end-eq1 : goal.returns-then-end-eq1
returns-then-end-eq1 c =
    let e = strip_prefix_is Decides-eqb c.args.item.now c.args.key.now (Some c.in-Some.rest) c.in-Some.ensures.cases in
    let f = strip_prefix_is Decides-eqb c.in-Some.rest.now c.args.digest.now (Some c.in-Some-strip_prefix.end) c.in-Some-strip_prefix.ensures.cases in
    one_byte _ c.if-end-eq1.true ∙ sym (at_end c.args.item.now c.args.key.now c.args.digest.now c.in-Some.rest.now c.in-Some-strip_prefix.end.now e f)

pub returns-else-end-eq1 : goal.returns-else-end-eq1
returns-else-end-eq1 c =
    let e = strip_prefix_is Decides-eqb c.args.item.now c.args.key.now (Some c.in-Some.rest) c.in-Some.ensures.cases in
    let f = strip_prefix_is Decides-eqb c.in-Some.rest.now c.args.digest.now (Some c.in-Some-strip_prefix.end) c.in-Some-strip_prefix.ensures.cases in
    no_byte _ c.if-end-eq1.false ∙ sym (at_end c.args.item.now c.args.key.now c.args.digest.now c.in-Some.rest.now c.in-Some-strip_prefix.end.now e f)

pub returns-in-None-strip_prefix : goal.returns-in-None-strip_prefix
returns-in-None-strip_prefix c =
    let e = strip_prefix_is Decides-eqb c.args.item.now c.args.key.now (Some c.in-Some.rest) c.in-Some.ensures.cases in
    no_digest c.args.item.now c.args.key.now c.args.digest.now c.in-Some.rest.now e (strip_prefix_is Decides-eqb c.in-Some.rest.now c.args.digest.now None c.in-None-strip_prefix.ensures.cases)

pub returns-in-None : goal.returns-in-None
returns-in-None c = no_key c.args.item.now c.args.key.now c.args.digest.now (strip_prefix_is Decides-eqb c.args.item.now c.args.key.now None c.in-None.ensures.cases)
