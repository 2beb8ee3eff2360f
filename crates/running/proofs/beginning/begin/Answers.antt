use Rattle.std.proofs.Common.{◌≡◌, List, None, sym, subst}
use Rattle.terms.specs.declared.proposals.ProposedTerms.{ProposedTerms}
use Rattle.world.specs.Beginning.{IsBeginning, beginning_refusal}
use Rattle.running.proofs.Openings.{few_at_beginning, never_refused, is_memory}
use Rattle.running.proofs.beginning.begin.Goals as goal

pub unreachable-requires : goal.unreachable-requires
unreachable-requires c =
    let s = c.args.scenario.now in
    let none : beginning_refusal c.values.result.now ≡ None = subst (λ (ts : List ProposedTerms). beginning_refusal ts ≡ None) (sym c.values.ensures) (never_refused s.channels s.few_channels s.agreed) in
    is_memory (beginning_refusal c.values.result.now) c.in-Err.error none c.in-Err.ensures c.in_default.not-NoMemory

pub returns-in-Ok : goal.returns-in-Ok
returns-in-Ok c =
    let s = c.args.scenario.now in
    let begins : IsBeginning s.seeds s.channels c.in-Ok.world = subst (λ (ts : List ProposedTerms). IsBeginning s.seeds ts c.in-Ok.world) c.values.ensures c.in-Ok.ensures.1 in
    let few = few_at_beginning s.seeds s.channels c.in-Ok.world begins in
    record { world = c.in-Ok.world; begins = begins; a = c.into_parts.ensures.a; b = c.into_parts.ensures.b; chain = c.into_parts.ensures.chain; a_few = rw c.into_parts.ensures.a few.0; b_few = rw c.into_parts.ensures.b few.1 }
