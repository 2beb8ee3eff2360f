-- A side of a world takes the care that is asked of a book.
use Rattle.std.proofs.Common.{◌≡◌, ℕ, ◌==◌, if◌then◌else◌, Bool, true, false, List, [], ◌∷◌, Some, None, refl, sym, ap, ◌∙◌, subst}
use Rattle.std.specs.Prelude.{slice_get}
use Rattle.std.specs.List.{AllByRecursion, Contains, cons_option}
use Rattle.std.proofs.lemmas.Bool.{eqb-true}
use Rattle.std.proofs.lemmas.Option.{same_Some}
use Rattle.claim.specs.Claims.{ClaimParts}
use Rattle.channel.specs.Tokens.{peer_tokens}
use Rattle.safety.specs.Holdings.{IsOnRecorded, on_own, on_peers}
use Rattle.safety.specs.Recorded.{IsOutPoint}
use Rattle.safety.specs.Taken.{GrantsAreOutPoints}
use Rattle.safety.proofs.Slots.{contains_first, contains_later}
use Rattle.book.specs.declared.calls.Batch.{Batch}
use Rattle.book.specs.declared.calls.Call.{Call}
use Rattle.book.specs.declared.calls.Call.TheVariants.{Release as Releasing}
use Rattle.book.specs.declared.calls.Entry.{Entry}
use Rattle.book.specs.Books.{ChannelBook, replay}
use Rattle.book.specs.Accepted.{IsHistory}
use Rattle.book_laws.specs.Holdings.{release_by, releases_in, holding_of}
use Rattle.book_laws.specs.Keeping.{BooksKeepRules, ClaimablesAreRecorded}
use Rattle.book_laws.proofs.Released.{IsDue}
use Rattle.world.specs.Worlds.{Node}
use Rattle.world.specs.Sources.{IsDueOf, of_own, of_peers, of_revoked, IsDueIn, IsSide}
use Rattle.world_laws.specs.Caring.{SidesAreCareful, SidesKeepRules}

-- ---- lists

all_mapped : {X : Type 0} (P Q : X → Type 0) → ((x : X) → P x → Q x) → (xs : List X) → AllByRecursion P xs → AllByRecursion Q xs
all_mapped P Q f [] h = tt
all_mapped P Q f (x ∷ xs) h = (f x h.0, all_mapped P Q f xs h.1)

-- ---- one side

module _ (revoked_are : ClaimablesAreRecorded) (n : Node) (called : IsHistory peer_tokens n.history) where
  on_recorded : (c : ℕ) (ch : ChannelBook) (x : ClaimParts) → slice_get (replay n.history) c ≡ Some ch → IsDueOf ch.state x → IsOnRecorded (holding_of n.history c ch) x
  on_recorded c ch x there (of_own m k preimages at i) = on_own m k at preimages i
  on_recorded c ch x there (of_peers m k preimages at i) = on_peers m k at preimages i
  on_recorded c ch x there (of_revoked m claimable at i) = revoked_are peer_tokens n.history c m ch claimable x called there at i

  may_release : (c : ℕ) (ch : ChannelBook) (x : ClaimParts) → slice_get (replay n.history) c ≡ Some ch → IsDueIn n.history c x → IsOnRecorded (holding_of n.history c ch) x
  may_release c ch x there d =
      subst (λ (b : ChannelBook). IsOnRecorded (holding_of n.history c b) x) (same_Some d.ch ch (sym d.there ∙ there)) (on_recorded c d.ch x d.there d.due)

  -- what entries release in a channel, if each release of theirs is due
  pub released : (c : ℕ) (ch : ChannelBook) → slice_get (replay n.history) c ≡ Some ch → (es : List Entry)
      → ((seat : ℕ) (batch : Batch) → Contains es (record { seat = seat; call = Releasing c batch }) → AllByRecursion (IsDueIn n.history c) batch.claims)
      → AllByRecursion (IsDue (holding_of n.history c ch)) (releases_in c es)
  released c ch there [] f = tt
  released c ch there (e ∷ es) f = by e.call refl (released c ch there es (λ seat batch i. f seat batch (contains_later e es (record { seat = seat; call = Releasing c batch }) i)))
    where
      by : (call : Call) → e.call ≡ call → AllByRecursion (IsDue (holding_of n.history c ch)) (releases_in c es)
          → AllByRecursion (IsDue (holding_of n.history c ch)) (cons_option (release_by c call) (releases_in c es))
      by (Releasing d batch) same rest = here (d == c) refl
        where
          here : (b : Bool) → (d == c) ≡ b → AllByRecursion (IsDue (holding_of n.history c ch)) (cons_option (if b then Some (record { claims = batch.claims; outputs = batch.outputs }) else None) (releases_in c es))
          here true at =
              let call : e.call ≡ Releasing c batch = same ∙ ap (λ (m : ℕ). Releasing m batch) (eqb-true d c at) in
              let first : Contains (e ∷ es) (record { seat = e.seat; call = Releasing c batch })
              = subst (λ (call : Call). Contains (e ∷ es) (record { seat = e.seat; call = call })) call (contains_first e es) in (
                all_mapped (IsDueIn n.history c) (IsOnRecorded (holding_of n.history c ch)) (λ x d. may_release c ch x there d) batch.claims (f e.seat batch first),
                rest,
              )
          here false at = rest
      by call same rest = rest

-- ---- its rules

pub sides_are_careful : ClaimablesAreRecorded → GrantsAreOutPoints → SidesAreCareful
sides_are_careful revoked_are grants n c ch caring = record {
  called = caring.called;
  there = caring.there;
  cares = caring.cares;
  due = released revoked_are n caring.called c ch caring.there n.history (λ seat batch i. caring.side.due seat c batch i);
  funding = subst IsOutPoint (sym (caring.side.opened c ch caring.there).1) (grants c);
}

pub sides_keep_rules : BooksKeepRules → ClaimablesAreRecorded → GrantsAreOutPoints → SidesKeepRules
sides_keep_rules keeps revoked_are grants n c ch caring = keeps n.history c ch (sides_are_careful revoked_are grants n c ch caring)
