-- Which HTLCs the calls of a history asked for, worked out by hand.
use Rattle.std.proofs.Common.{◌≡◌, ℕ, zero, suc, List, [], ◌∷◌, replicate, Contains, ap, refl, arith}
use Rattle.terms.specs.declared.htlcs.Htlc.{Htlc}
use Rattle.updates.specs.declared.changes.OwnUpdate.TheVariants.{Offer}
use Rattle.book.specs.declared.calls.Opening.{Opening}
use Rattle.book.specs.declared.calls.Step.TheVariants.{Own}
use Rattle.book.specs.declared.calls.Call.{Call}
use Rattle.book.specs.declared.calls.Call.TheVariants.{Open, Step as Stepping}
use Rattle.book.specs.declared.calls.Entry.{Entry}
use Rattle.book.specs.Lived.{IsAskedFor}

abbrev hash : List ℕ
hash = replicate 32 9

abbrev htlc : ℕ → ℕ → Htlc
htlc amount_msat expiry_height = record { id = 0; amount_msat = amount_msat; hash = hash; expiry_height = expiry_height }

-- of a call that offers an HTLC its amount, its expiry and its channel, and 7 of another one
abbrev amount_in : Call → ℕ
amount_in (Stepping c (Own (Offer amount_msat h expiry_height))) = amount_msat
amount_in call = 7

abbrev expiry_in : Call → ℕ
expiry_in (Stepping c (Own (Offer amount_msat h expiry_height))) = expiry_height
expiry_in call = 7

abbrev channel_in : Call → ℕ
channel_in (Stepping c (Own (Offer amount_msat h expiry_height))) = c
channel_in call = 7

-- a channel is opened, and 1,000 millisatoshis are offered in it until height 500
module _ (o : Opening) where
  abbrev offering : Call
  offering = Stepping 0 (Own (Offer 1000 hash 500))

  abbrev history : List Entry
  history = record { seat = 3; call = Open o } ∷ record { seat = 4; call = offering } ∷ []

  -- neither call is one of another number
  neither : (f : Call → ℕ) (x : Entry) → (f (Open o) ≡ f x.call → ⊥) → (f offering ≡ f x.call → ⊥) → Contains history x → ⊥
  neither f x first second (zero, l, e) = first (ap (λ (y : Entry). f y.call) e)
  neither f x first second (suc zero, l, e) = second (ap (λ (y : Entry). f y.call) e)
  neither f x first second (suc (suc i), l, e) = omega (arith, l)

  -- yes: IsAskedFor
  asked_second : IsAskedFor history 0 (htlc 1000 500)
  asked_second = record { seat = 4; asked = (1, omega arith, refl) }

  -- no: IsAskedFor
  of_another_amount : IsAskedFor history 0 (htlc 2000 500) → ⊥
  of_another_amount a = neither amount_in (record { seat = a.seat; call = Stepping 0 (Own (Offer 2000 hash 500)) }) (λ (e : 7 ≡ 2000). omega (arith, e)) (λ (e : 1000 ≡ 2000). omega (arith, e)) a.asked

  -- no: IsAskedFor
  until_another_height : IsAskedFor history 0 (htlc 1000 501) → ⊥
  until_another_height a = neither expiry_in (record { seat = a.seat; call = Stepping 0 (Own (Offer 1000 hash 501)) }) (λ (e : 7 ≡ 501). omega (arith, e)) (λ (e : 500 ≡ 501). omega (arith, e)) a.asked

  -- no: IsAskedFor
  in_another_channel : IsAskedFor history 1 (htlc 1000 500) → ⊥
  in_another_channel a = neither channel_in (record { seat = a.seat; call = Stepping 1 (Own (Offer 1000 hash 500)) }) (λ (e : 7 ≡ 1). omega (arith, e)) (λ (e : 0 ≡ 1). omega (arith, e)) a.asked
