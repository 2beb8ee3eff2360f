-- What a side keeps for a revoked commitment.
use Rattle.std.proofs.Common.{◌≡◌, ℕ, Bool, true, false, List, length, Option, Some, None, Ok, Err, refl, sym, ap, subst, ◌∙◌}
use Rattle.std.specs.Prelude.{option_map, nat_lt, not}
use Rattle.claim.specs.Claims.{ClaimParts}
use Rattle.penalty.specs.Claimable.{claimable_of}
use Rattle.penalty.specs.Sets.{AreClaimsOn}
use Rattle.penalty.specs.declared.states.RevokedState.{RevokedState}
use Rattle.book.specs.declared.calls.Call.TheVariants as calls
use Rattle.book.specs.declared.errors.KeepError.{KeepError}
use Rattle.book.specs.declared.errors.KeepError.TheVariants as keeps
use Rattle.book.specs.Penalties.{is_penalty_set}
use Rattle.book.specs.Books.{ChannelBook, is_kept}
use Rattle.book.specs.Replies.{kept, asked, unless, if_so}
use Rattle.book.specs.Calling.{IsCall, IsKeepRefusal}
use Rattle.book.specs.Revoked.{early_keep_refusal, IsRevokedIn}
use Rattle.world.specs.declared.errors.EventError.{EventError}
use Rattle.world.specs.declared.errors.EventError.TheVariants.{Keep}
use Rattle.world.specs.Worlds.{Node, channel_of}
use Rattle.world.specs.declared.limits.TheConstants.{SEAT}
use Rattle.world.specs.Refusing.{by_keep, refusal_in, IsRefusal}
use Rattle.world.specs.Keeping.{keep_refusal, IsSetFor, IsKept}
use Rattle.world.proofs.Answering.{refused, is_answered, is_undone}

-- ---- the set

-- claims on all that the state lets claim are the set to be kept
pub set_for : (n : Node) (channel number : ℕ) (state : RevokedState) (claims : List ClaimParts) → IsRevokedIn number (channel_of n channel) state → AreClaimsOn (claimable_of state) claims
    → IsSetFor n channel number claims
set_for n channel number state claims is full = record {
  ch = is.ch;
  there = is.there;
  revoked = is.revoked;
  unkept = is.unkept;
  set = is.sets claims full;
}

-- the book's refusal is that of the event
by_book : (number : ℕ) (o : Option ChannelBook) → keep_refusal number o ≡ option_map by_keep (early_keep_refusal number o)
by_book number None = refl
by_book number (Some ch) = go (not (nat_lt number (length ch.state.secrets))) (is_kept ch.kept number)
  where
    go : (a b : Bool) → if_so a (Keep keeps.NotRevoked) (if_so b (Keep keeps.AlreadyKept) None) ≡ option_map by_keep (if_so a keeps.NotRevoked (if_so b keeps.AlreadyKept None))
    go true b = refl
    go false true = refl
    go false false = refl

pub refused_so : (number : ℕ) (o : Option ChannelBook) (e : KeepError) (x : EventError) → IsKeepRefusal (early_keep_refusal number o) e → x ≡ by_keep e → IsRefusal (keep_refusal number o) x
refused_so number o keeps.NoMemory x is by = subst (λ (y : EventError). IsRefusal (keep_refusal number o) y) (sym by) tt
refused_so number o keeps.NotRevoked x is by = refused _ x (by_book number o ∙ ap (λ (r : Option KeepError). option_map by_keep r) is ∙ ap Some (sym by))
refused_so number o keeps.OtherState x is by = refused _ x (by_book number o ∙ ap (λ (r : Option KeepError). option_map by_keep r) is ∙ ap Some (sym by))
refused_so number o keeps.AlreadyKept x is by = refused _ x (by_book number o ∙ ap (λ (r : Option KeepError). option_map by_keep r) is ∙ ap Some (sym by))
refused_so number o keeps.NoSuchChannel x is by = refused _ x (by_book number o ∙ ap (λ (r : Option KeepError). option_map by_keep r) is ∙ ap Some (sym by))

-- ---- the book keeps it

answered : (o : Option ChannelBook) (ch : ChannelBook) (number : ℕ) (claims : List ClaimParts) → o ≡ Some ch → nat_lt number (length ch.state.secrets) ≡ true → is_kept ch.kept number ≡ false
    → is_penalty_set ch.state number claims ≡ true
    → kept (asked keeps.NoSuchChannel o (λ c. unless (λ e. e) (if_so (not (nat_lt number (length c.state.secrets))) keeps.NotRevoked (if_so (is_kept c.kept number) keeps.AlreadyKept (if_so (not (is_penalty_set c.state number claims)) keeps.OtherState None))) tt)) ≡ kept (Ok tt)
answered o ch number claims there revoked unkept set = rw (there, revoked, unkept, set) refl

unrefused : (o : Option ChannelBook) (ch : ChannelBook) (number : ℕ) → o ≡ Some ch → nat_lt number (length ch.state.secrets) ≡ true → is_kept ch.kept number ≡ false → keep_refusal number o ≡ None
unrefused o ch number there revoked unkept = rw (there, revoked, unkept) refl

-- a side whose book keeps the set, and one whose book refuses
pub is_kept_by : (n new : Node) (channel number : ℕ) (claims : List ClaimParts) → IsSetFor n channel number claims → IsCall (kept (Ok tt)) n.history new.history SEAT (calls.Keep channel number claims)
    → new ≡ record n { history = new.history } → (keep_refusal number (channel_of n channel) ≡ None) × IsKept n channel number new
is_kept_by n new channel number claims set book rest =
    let is = is_answered n new (calls.Keep channel number claims) (kept (Ok tt)) None book rest refl refl in
    (unrefused _ set.ch number set.there set.revoked set.unkept, record { claims = claims; set = set; answer = answered _ set.ch number claims set.there set.revoked set.unkept set.set; after = is.2 })

pub unkept_by : (n new : Node) (channel number : ℕ) (claims : List ClaimParts) (refusal : KeepError) (e : EventError) → IsSetFor n channel number claims → e ≡ by_keep refusal
    → IsCall (kept (Err refusal)) n.history new.history SEAT (calls.Keep channel number claims) → new ≡ record n { history = new.history } → IsRefusal (keep_refusal number (channel_of n channel)) e × (new ≡ n)
unkept_by n new channel number claims refusal e set by book rest =
    let is = is_undone n new (calls.Keep channel number claims) (kept (Err refusal)) e refl book rest refl (ap Some (sym by)) in
    (subst (λ (o : Option EventError). IsRefusal o e) (ap refusal_in (answered _ set.ch number claims set.there set.revoked set.unkept set.set) ∙ sym (unrefused _ set.ch number set.there set.revoked set.unkept)) is.0, is.1)
