use Rattle.std.proofs.Common.{subst, sym}
use Rattle.std.proofs.lemmas.Result.{IfOk-weaker}
use Rattle.claim.specs.declared.parts.Shell.TheVariants.{Open}
use Rattle.forms.specs.declared.kinds.ClaimKind.{ClaimKind}
use Rattle.forms.specs.Claims.{Claims, path_taken_by}
use Rattle.forms.specs.Fillings.{fillings_of}
use Rattle.penalty.specs.Outputs.{HasWay}
use Rattle.penalty.specs.Sets.{IsClaimOn}
use Rattle.penalty.proofs.Accepting.{open_way}
use Rattle.penalty.proofs.Programs.{on_htlc}
use Rattle.resolve.proofs.Accepting.{claims_direct, as_direct}
use Rattle.resolve.proofs.claiming.direct_on.Goals as goal

pub claim_of-requires-clause-form : goal.claim_of-requires-clause-form
claim_of-requires-clause-form c =
    subst (λ (x : ClaimKind). Claims x c.in_ok-checked.checked (path_taken_by x) c.args.place Open) (sym c.direct_kind-kind.ensures)
    (claims_direct c.args.commitment.now c.keys-keys.result.now c.args.direction c.args.htlc.now c.in_ok-checked.checked c.args.place c.keys-keys.ensures c.requires.height c.requires.open c.in_ok-checked.ensures)

pub claim_of-requires-clause-way : goal.claim_of-requires-clause-way
claim_of-requires-clause-way c =
    subst (λ (x : ClaimKind). HasWay c.in_ok-checked.checked (path_taken_by x) c.args.place Open) (sym c.direct_kind-kind.ensures)
    (open_way _ c.in_ok-checked.checked _ c.args.place
    (claims_direct c.args.commitment.now c.keys-keys.result.now c.args.direction c.args.htlc.now c.in_ok-checked.checked c.args.place c.keys-keys.ensures c.requires.height c.requires.open c.in_ok-checked.ensures))

pub claim_of-requires-clause-program : goal.claim_of-requires-clause-program
claim_of-requires-clause-program c =
    on_htlc c.args.commitment.now _ c.args.direction c.args.htlc.now _ _ c.keys-keys.ensures c.in_ok-checked.ensures c.requires.program

pub returns : goal.returns
returns c =
    IfOk-weaker c.claim_of.result _ _
    (λ claim i.
    as_direct c.args.commitment.now c.keys-keys.result.now c.args.direction c.args.htlc.now c.in_ok-checked.checked c.args.place claim c.keys-keys.ensures c.in_ok-checked.ensures
    (subst (λ (x : ClaimKind). IsClaimOn (record { place = c.args.place; form = c.in_ok-checked.checked; path = path_taken_by x; slots = fillings_of x; shell = Open }) claim) c.direct_kind-kind.ensures i))
    c.claim_of.ensures
