-- What is known by flags is what is known by kept numbers.
use Rattle.std.proofs.Common.{◌≡◌, ℕ, ◌<◌, ◌≤◌, Bool, false, List, length, Result, Ok, Err, sym, ap, ◌∙◌, ⊎_elim}
use Rattle.std.specs.Prelude.{slice_get, unwrap_or, option_map, IfOk}
use Rattle.std.proofs.lemmas.Bool.{cases_lt}
use Rattle.std.proofs.lemmas.Option.{slice_get_past}
use Rattle.channel.specs.States.{State}
use Rattle.resolve.specs.declared.known.Known.{Known}
use Rattle.claim.specs.Opcodes.{◌>>=◌}
use Rattle.book.specs.Books.{ChannelBook, is_kept}
use Rattle.book.specs.Kept.{IsBeside, AreFlags}
use Rattle.book.specs.Knowing.{flag_at, revoked_by, revoked_at, IsKnownOf}
use Rattle.book.proofs.Recorded.{agreeing}

flag_is : (kept : List ℕ) (flags : List Bool) (below : ℕ) → AreFlags kept flags below → (n : ℕ) → flag_at flags n ≡ is_kept kept n
flag_is kept flags below are n = ⊎_elim within past (cases_lt n (length flags))
  where
    within : n < length flags → flag_at flags n ≡ is_kept kept n
    within lt = ap (λ o. unwrap_or o false) (are.each n lt)

    past : length flags ≤ n → flag_at flags n ≡ is_kept kept n
    past le = ap (λ o. unwrap_or o false) (slice_get_past flags n le) ∙ sym (are.later n le)

same_at : (s : State) (f g : ℕ → Bool) → ((n : ℕ) → f n ≡ g n) → (n : ℕ) → revoked_at s f n ≡ revoked_at s g n
same_at s f g same n = ap (λ b. slice_get s.signed n >>= (λ c. option_map (λ secret. revoked_by s c secret b) (slice_get s.secrets n))) (same n)

pub known_by : {E : Type 0} (ch : ChannelBook) (flags : List Bool) (below : ℕ) → IsBeside ch flags below → (preimages : List (List ℕ)) (r : Result Known E)
    → IfOk r (IsKnownOf ch.state (flag_at flags) preimages) → IfOk r (IsKnownOf ch.state (is_kept ch.kept) preimages)
known_by ch flags below beside preimages (Ok k) h = record {
  terms_are = h.terms_are;
  side_is = h.side_is;
  seed_is = h.seed_is;
  rights_are = h.rights_are;
  own_is = h.own_is;
  older_are = h.older_are;
  theirs_is = h.theirs_is;
  next_is = h.next_is;
  revoked_are = h.revoked_are ∙ agreeing _ _ (same_at ch.state _ _ (flag_is ch.kept flags below beside.are)) (length ch.state.secrets);
  preimages_are = h.preimages_are;
}
known_by ch flags below beside preimages (Err e) h = tt
