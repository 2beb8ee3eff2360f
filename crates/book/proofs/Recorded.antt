-- What stands at numbers, gathered one by one.
use Rattle.std.proofs.Common.{◌≡◌, ℕ, zero, suc, ◌+◌, ◌<◌, Bool, List, [], ◌∷◌, ◌++◌, map, length, take, get_or, Option, Some, Result, Ok, Err, refl, sym, ap, ◌∙◌, arith, None}
use Rattle.std.specs.Prelude.{slice_get, slice_index_or, option_map, IfOk}
use Rattle.std.specs.List.{cons_option}
use Rattle.std.proofs.lemmas.List.{map-append, length-append, take_more}
use Rattle.std.proofs.lemmas.Option.{none-some, same_Some, slice_get_read}
use Rattle.terms.specs.declared.sides.Side.{Side}
use Rattle.terms.specs.declared.agreement.Terms.{Terms}
use Rattle.channel.specs.declared.commitments.CommitmentState.{CommitmentState}
use Rattle.channel.specs.Numbered.{AreNumbered}
use Rattle.channel.specs.States.{State}
use Rattle.channel.specs.Tokens.{peer_tokens}
use Rattle.updates.specs.declared.messages.Tokens.{Tokens}
use Rattle.resolve.specs.declared.known.SignedCommitment.{SignedCommitment}
use Rattle.resolve.specs.declared.known.RevokedCommitment.{RevokedCommitment}
use Rattle.claim.specs.Opcodes.{◌>>=◌}
use Rattle.book.specs.Knowing.{below, signed_parts, signed_by_peer, own_at, Revoked, revoked_parts, revoked_by, revoked_at}

-- one more, at the next number
pub one_more : {A B : Type 0} (f : A → B) (at : ℕ → Option B) (n m : ℕ) (xs : List A) (x : A)
    → m ≡ suc n → map f xs ≡ below at n → Some (f x) ≡ at n → map f (xs ++ x ∷ []) ≡ below at m
one_more f at n m xs x next are is =
    map-append f xs (x ∷ []) ∙ ap (λ ys. ys ++ f x ∷ []) are ∙ ap (λ o. below at n ++ cons_option o []) is ∙ ap (below at) (sym next)

-- the same for a list after a push
pub one_later : {A B : Type 0} (f : A → B) (at : ℕ → Option B) (n : ℕ) (xs ys : List A) (x : A)
    → ys ≡ xs ++ x ∷ [] → map f xs ≡ below at n → Some (f x) ≡ at n → map f ys ≡ below at (n + 1)
one_later f at n xs ys x same are is = ap (map f) same ∙ one_more f at n (n + 1) xs x (omega arith) are is

pub one_longer : {A : Type 0} (n : ℕ) (xs ys : List A) (x : A) → ys ≡ xs ++ x ∷ [] → length xs ≡ n → length ys ≡ n + 1
one_longer n xs ys x same long = ap length same ∙ length-append xs (x ∷ []) ∙ ap (λ m. m + 1) long

-- two functions that agree at every number give the same list
pub agreeing : {A : Type 0} (f g : ℕ → Option A) → ((n : ℕ) → f n ≡ g n) → (n : ℕ) → below f n ≡ below g n
agreeing f g same zero = refl
agreeing f g same (suc n) = ap (λ xs. xs ++ cons_option (f n) []) (agreeing f g same n) ∙ ap (λ o. below g n ++ cons_option o []) (same n)

-- nothing is missing below the end
pub not_missing : {A : Type 0} (xs : List A) (n : ℕ) → n < length xs → slice_get xs n ≡ None → ⊥
not_missing [] n within none = omega (arith, within)
not_missing (x ∷ xs) zero within none = none-some x (sym none)
not_missing (x ∷ xs) (suc n) within none = not_missing xs n (omega (arith, within)) none

-- ---- a revoked commitment

-- one of those recorded
pub recorded : (cs ds : List CommitmentState) (n : ℕ) (c : CommitmentState) → ds ≡ cs → n < length ds → c ≡ slice_index_or ds n c → slice_get cs n ≡ Some c
recorded cs ds n c same within is = ap (λ es. slice_get es n) (sym same) ∙ slice_get_read ds (length ds) n c refl within is

pub revoked_is : {E : Type 0} (s : State) (kept : ℕ → Bool) (n : ℕ) (c : CommitmentState) (secret : List ℕ) (b : Bool) (r : Result RevokedCommitment E)
    → slice_get s.signed n ≡ Some c → slice_get s.secrets n ≡ Some secret → b ≡ kept n
    → IfOk r (λ k. revoked_parts k ≡ revoked_by s c secret b) → IfOk r (λ k. Some (revoked_parts k) ≡ revoked_at s kept n)
revoked_is s kept n c secret b (Ok k) found told flag is =
    ap Some is
    ∙ ap (λ d. Some (revoked_by s c secret d)) flag
    ∙ ap (λ o. option_map (λ x. revoked_by s c x (kept n)) o) (sym told)
    ∙ ap (λ o. o >>= (λ x. option_map (λ y. revoked_by s x y (kept n)) (slice_get s.secrets n))) (sym found)
revoked_is s kept n c secret b (Err e) found told flag is = tt

pub number_is : {E : Type 0} (s : State) (terms : Terms) (side : Side) (many n : ℕ) (cs : List CommitmentState) (c : CommitmentState) (secret : List ℕ) (b : Bool) (r : Result RevokedCommitment E)
    → AreNumbered terms side many cs → slice_get cs n ≡ Some c
    → IfOk r (λ k. revoked_parts k ≡ revoked_by s c secret b) → IfOk r (λ k. k.state.number ≡ n)
number_is s terms side many n cs c secret b (Ok k) are found is = ap (λ (p : Revoked). p.number) is ∙ (are.each n c found).number
number_is s terms side many n cs c secret b (Err e) are found is = tt

-- ---- a commitment of this side

pub own_is : {E : Type 0} (s : State) (terms : Terms) (n : ℕ) (c : CommitmentState) (r : Result SignedCommitment E) → terms ≡ s.held.terms → slice_get s.mine n ≡ Some c
    → IfOk r (λ k. signed_parts k ≡ signed_by_peer terms c) → IfOk r (λ k. Some (signed_parts k) ≡ own_at s n)
own_is s terms n c (Ok k) same found is = ap Some is ∙ ap (λ t. Some (signed_by_peer t c)) same ∙ ap (option_map (signed_by_peer s.held.terms)) (sym found)
own_is s terms n c (Err e) same found is = tt

pub tokens_are : (s : State) (terms : Terms) (n : ℕ) (c : CommitmentState) (o : Option Tokens) (tokens : Tokens) → terms ≡ s.held.terms → slice_get s.mine n ≡ Some c
    → o ≡ option_map (peer_tokens s.held.terms) (slice_get s.mine n) → o ≡ Some tokens → tokens ≡ peer_tokens terms c
tokens_are s terms n c o tokens same found given is =
    same_Some tokens _ (sym is ∙ given ∙ ap (option_map (peer_tokens s.held.terms)) found) ∙ ap (λ t. peer_tokens t c) (sym same)

-- ---- lists that are gathered from a slice

-- one more, whose image stands next
pub took : {A B : Type 0} (f : A → B) (refs later : List A) (r : A) (x : B) (xs : List B) (i : ℕ) → later ≡ refs ++ r ∷ [] → map f refs ≡ take i xs → i < length xs → f r ≡ x → x ≡ get_or xs i x
    → map f later ≡ take (i + 1) xs
took f refs later r x xs i is are within image stands =
    ap (map f) is ∙ map-append f refs (r ∷ []) ∙ ap (λ ys. ys ++ f r ∷ []) are ∙ ap (λ y. take i xs ++ y ∷ []) (image ∙ stands) ∙ sym (take_more xs i x within)

-- one more, which is equal to the next
pub copied : {A : Type 0} (done later : List A) (x y : A) (xs : List A) (i : ℕ) → later ≡ done ++ x ∷ [] → done ≡ take i xs → i < length xs → x ≡ y → y ≡ get_or xs i y → later ≡ take (i + 1) xs
copied done later x y xs i is are within same stands = is ∙ ap (λ ys. ys ++ x ∷ []) are ∙ ap (λ z. take i xs ++ z ∷ []) (same ∙ stands) ∙ sym (take_more xs i y within)
