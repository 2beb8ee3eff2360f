-- What claims on the outputs of a revoked state's commitment rest on.
use Rattle.std.proofs.Common.{◌≡◌, ℕ, ◌<◌, true, List, [], ◌∷◌, map, Option, Some, None, Err, refl, sym, ap, ◌∙◌}
use Rattle.std.specs.List.{All}
use Rattle.std.proofs.lemmas.Bool.{and_parts, ltb-true}
use Rattle.std.proofs.lemmas.List.Elements.{All-nil, All-cons, All-append, All-filter, All-map}
use Rattle.std.proofs.lemmas.List.Sorted.{All-permutation}
use Rattle.script.specs.declared.limits.TheConstants.{LOCKTIME_THRESHOLD}
use Rattle.terms.specs.declared.htlcs.Htlc.{Htlc}
use Rattle.terms.specs.declared.sides.Side.{Side}
use Rattle.terms.specs.declared.sides.Side.TheVariants.{A, B}
use Rattle.terms.specs.declared.agreement.Terms.{Terms}
use Rattle.terms.specs.declared.views.View.{View}
use Rattle.terms.specs.Agreement.{party}
use Rattle.terms.specs.Sides.{other}
use Rattle.terms.specs.Views.{share}
use Rattle.keys.specs.Derivation.{point_of}
use Rattle.commit.specs.declared.fees.Direction.{Direction}
use Rattle.commit.specs.declared.fees.Direction.TheVariants.{Offered, Received}
use Rattle.commit.specs.declared.amounts.Amounts.{Amounts}
use Rattle.commit.specs.declared.errors.BuildError.TheVariants.{NoMemory, TooManyOutputs, ValueTooLarge}
use Rattle.commit.specs.Amounts.{amounts_of}
use Rattle.commit.specs.Keys.{KeyBytes, keys_of}
use Rattle.commit.specs.Outputs.{htlc_output, to_local_output, to_remote_output, where_paid, outputs_of}
use Rattle.commit.specs.declared.errors.BuildError.{BuildError}
use Rattle.commit.specs.Building.{Gives}
use Rattle.commit.specs.Commitments.{Contents, commitment_of}
use Rattle.commit.proofs.Collected.{few_outputs}
use Rattle.commit.proofs.Ordered.{there_is_one}
use Rattle.commit.proofs.Shared.{shared}
use Rattle.penalty.specs.declared.states.RevokedState.{RevokedState}
use Rattle.penalty.specs.Views.{expire_at_heights, has_heights}
use Rattle.penalty.specs.Paying.{CanPay}
use Rattle.penalty.specs.Claimable.{commitment_in}
use Rattle.penalty.specs.Outputs.{IsOutput, AreOutputs}

abbrev ExpiresLow : Htlc → Type 0
ExpiresLow h = h.expiry_height < LOCKTIME_THRESHOLD

low_heights : (hs : List Htlc) → expire_at_heights hs ≡ true → All ExpiresLow hs
low_heights [] e = All-nil ExpiresLow
low_heights (h ∷ hs) e =
    let p = and_parts _ _ e in
    All-cons ExpiresLow h hs (ltb-true h.expiry_height LOCKTIME_THRESHOLD p.0) (low_heights hs p.1)

of_side : (side : Side) (view : View) → has_heights view ≡ true → All ExpiresLow (share side view).offered
of_side A view e = low_heights view.a.offered (and_parts _ _ e).0
of_side B view e = low_heights view.b.offered (and_parts _ _ e).1

to_htlcs : (delay_blocks : ℕ) (k : KeyBytes) (direction : Direction) (hs : List Htlc) → All ExpiresLow hs → All (IsOutput delay_blocks k) (map (htlc_output k direction) hs)
to_htlcs delay_blocks k direction hs a = All-map (IsOutput delay_blocks k) (htlc_output k direction) hs (λ i d l. record { program = refl; height = a i d l })

to_local : (delay_blocks : ℕ) (k : KeyBytes) (value : Option ℕ) → All (IsOutput delay_blocks k) (where_paid (to_local_output delay_blocks k) value)
to_local delay_blocks k None = All-nil (IsOutput delay_blocks k)
to_local delay_blocks k (Some v) = All-cons (IsOutput delay_blocks k) (to_local_output delay_blocks k v) [] (record { program = refl; height = tt }) (All-nil (IsOutput delay_blocks k))

to_remote : (delay_blocks : ℕ) (k : KeyBytes) (value : Option ℕ) → All (IsOutput delay_blocks k) (where_paid (to_remote_output k) value)
to_remote delay_blocks k None = All-nil (IsOutput delay_blocks k)
to_remote delay_blocks k (Some v) = All-cons (IsOutput delay_blocks k) (to_remote_output k v) [] (record { program = refl; height = tt }) (All-nil (IsOutput delay_blocks k))

collected : (delay_blocks : ℕ) (k : KeyBytes) (a : Amounts) → All ExpiresLow a.offered → All ExpiresLow a.received → All (IsOutput delay_blocks k) (outputs_of delay_blocks k a)
unfolding outputs_of
collected delay_blocks k a o r =
    All-append (IsOutput delay_blocks k) _ _
    (All-append (IsOutput delay_blocks k) _ _
    (All-append (IsOutput delay_blocks k) _ _ (to_htlcs delay_blocks k Offered a.offered o) (to_htlcs delay_blocks k Received a.received r))
    (to_local delay_blocks k a.to_local))
    (to_remote delay_blocks k a.to_remote)

each_stands : (terms : Terms) (view : View) (owner : Side) (number : ℕ) (point : List ℕ) → CanPay terms view
    → All (IsOutput (commitment_of terms view owner number point).delay_blocks (commitment_of terms view owner number point).keys) (commitment_of terms view owner number point).outputs
unfolding commitment_of
each_stands terms view owner number point p =
    All-permutation (IsOutput (party owner terms).delay_blocks (keys_of terms owner point)) _ _
    (there_is_one (outputs_of (party owner terms).delay_blocks (keys_of terms owner point) (amounts_of terms view owner))).0.same
    (collected _ _ _
    (All-filter _ ExpiresLow _ (of_side owner view p.heights))
    (All-filter _ ExpiresLow _ (of_side (other owner) view p.heights)))

pub outputs_stand : (terms : Terms) (view : View) (owner : Side) (number : ℕ) (point : List ℕ) → CanPay terms view → AreOutputs (commitment_of terms view owner number point)
outputs_stand terms view owner number point p = record { few = few_outputs _ (shared terms view owner number point p.whole p.few); each = each_stands terms view owner number point p }

some_none : {A : Type 0} (x : A) → Some x ≡ None → ⊥
some_none x e = cc

-- of the refusals of `build` only that memory ran out is left
pub no_memory : (terms : Terms) (view : View) (owner : Side) (number : ℕ) (point : List ℕ) (e : BuildError) → CanPay terms view → Gives (commitment_of terms view owner number point) (Err e) → e ≡ NoMemory
no_memory terms view owner number point NoMemory p g = refl
no_memory terms view owner number point TooManyOutputs p g = absurd (some_none TooManyOutputs (sym g ∙ shared terms view owner number point p.whole p.few))
no_memory terms view owner number point ValueTooLarge p g = absurd (some_none ValueTooLarge (sym g ∙ shared terms view owner number point p.whole p.few))

pub state_pays : (state : RevokedState) → CanPay state.terms state.view
state_pays state = record { few = state.few; heights = state.heights; whole = state.whole }

pub in_state : (state : RevokedState) (point : List ℕ) (c : Contents) → point ≡ point_of state.secret → c ≡ commitment_of state.terms state.view state.owner state.number point → c ≡ commitment_in state
in_state state point c e g = g ∙ ap (commitment_of state.terms state.view state.owner state.number) e
