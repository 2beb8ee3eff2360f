-- The channels by their funding outputs.
use Rattle.std.proofs.Common.{◌≡◌, ℕ, zero, suc, ◌&&◌, ◌||◌, ◌==◌, cond, Bool, true, false, List, [], ◌∷◌, ◌++◌, length, Option, Some, is_some, refl, sym, ap, ◌∙◌, subst, arith}
use Rattle.std.specs.Prelude.{slice_get}
use Rattle.std.specs.Cmp.Lexicographic.{nat_list_eq_equiv}
use Rattle.std.specs.List.{list_any}
use Rattle.std.specs.Map.{lookup, keys_of, values_of}
use Rattle.std.specs.Str.{bytes_eq}
use Rattle.std.proofs.lemmas.Bool.Decides.{nat_tests}
use Rattle.std.proofs.lemmas.List.{map-append, length-map}
use Rattle.std.proofs.lemmas.Option.{none-some, same_Some}
use Rattle.indexmap.specs.Layout.{set_value_at}
use Rattle.tx.specs.declared.input.OutPoint.{OutPoint}
use Rattle.tx.specs.Fields.{same_outpoint}
use Rattle.channel.specs.Tokens.{peer_tokens}
use Rattle.book.specs.declared.calls.Entry.{Entry}
use Rattle.book.specs.Books.{ChannelBook, Channels, at_index, replay, fundings_of}
use Rattle.book.specs.Accepted.{all_accepted, AreWhole}
use Rattle.book.specs.Kept.{by_funding, AreLeft}

same_number : (x y : ℕ) → (x == y) ≡ (y == x)
same_number x y = grind (arith, nat_tests)

turned : (o p : OutPoint) → same_outpoint o p ≡ same_outpoint p o
turned o p = ap (λ b. b && o.index == p.index) (nat_list_eq_equiv.symm o.txid p.txid) ∙ ap (λ b. bytes_eq p.txid o.txid && b) (same_number o.index p.index)

first_or : {X : Type 0} (t r : Bool) (x : X) (o : Option X) → is_some o ≡ r → is_some (cond t (Some x) o) ≡ (t || r)
first_or true r x o is = refl
first_or false r x o is = is

any_funds : (o : OutPoint) (chs : Channels) → is_some (lookup (same_outpoint o) (by_funding chs)) ≡ list_any (λ ch. same_outpoint ch.state.held.terms.funding o) chs
any_funds o [] = refl
any_funds o (ch ∷ chs) =
    let f = ch.state.held.terms.funding in
    let rest = list_any (λ (c : ChannelBook). same_outpoint c.state.held.terms.funding o) chs in
    first_or (same_outpoint o f) rest ch (lookup (same_outpoint o) (by_funding chs)) (any_funds o chs) ∙ ap (λ b. b || rest) (turned o f)

values_are : (chs : Channels) → values_of (by_funding chs) ≡ chs
values_are [] = refl
values_are (ch ∷ chs) = ap (λ cs. ch ∷ cs) (values_are chs)

keys_are : (chs : Channels) → keys_of (by_funding chs) ≡ fundings_of chs
keys_are [] = refl
keys_are (ch ∷ chs) = ap (λ os. ch.state.held.terms.funding ∷ os) (keys_are chs)

-- one channel changes, and keeps its funding output
changed : (f : ChannelBook → ChannelBook) → ((ch : ChannelBook) → (f ch).state.held.terms ≡ ch.state.held.terms) → (c : ℕ) (chs : Channels) (x y : ChannelBook) → slice_get chs c ≡ Some x → y ≡ f x
    → set_value_at (by_funding chs) c y ≡ by_funding (at_index f c chs)
changed f same c [] x y found e = absurd (none-some x found)
changed f same zero (z ∷ chs) x y found e =
    ap (λ w. (z.state.held.terms.funding, w) ∷ by_funding chs) (e ∙ ap f (sym (same_Some z x found))) ∙ ap (λ t. (t.funding, f z) ∷ by_funding chs) (sym (same z))
changed f same (suc c) (z ∷ chs) x y found e = ap (λ es. (z.state.held.terms.funding, z) ∷ es) (changed f same c chs x y found e)

unchanged : (c : ℕ) (chs : Channels) (x y : ChannelBook) → slice_get chs c ≡ Some x → y ≡ x → set_value_at (by_funding chs) c y ≡ by_funding chs
unchanged c [] x y found e = refl
unchanged zero (z ∷ chs) x y found e = ap (λ w. (z.state.held.terms.funding, w) ∷ by_funding chs) (e ∙ sym (same_Some z x found))
unchanged (suc c) (z ∷ chs) x y found e = ap (λ es. (z.state.held.terms.funding, z) ∷ es) (unchanged c chs x y found e)

module _ (history : List Entry) (channels : List (OutPoint × ChannelBook)) (k : AreLeft history channels) where
  pub as_many : length channels ≡ length (replay history)
  as_many = ap length k.left ∙ length-map (replay history) (λ (ch : ChannelBook). (ch.state.held.terms.funding, ch))

  -- the outpoints are the channels' funding outputs
  pub fundings_are : (os : List OutPoint) → os ≡ keys_of channels → os ≡ fundings_of (replay history)
  fundings_are os is = is ∙ ap keys_of k.left ∙ keys_are (replay history)

  -- an outpoint is found if it is a channel's funding output
  pub funds : (o : OutPoint) → is_some (lookup (same_outpoint o) channels) ≡ list_any (λ ch. same_outpoint ch.state.held.terms.funding o) (replay history)
  funds o = ap (λ es. is_some (lookup (same_outpoint o) es)) k.left ∙ any_funds o (replay history)

  -- the channel at an index
  pub stands : (c : ℕ) (x : ChannelBook) → slice_get (values_of channels) c ≡ Some x → slice_get (replay history) c ≡ Some x
  stands c x found = sym (ap (λ es. slice_get (values_of es) c) k.left ∙ ap (λ chs. slice_get chs c) (values_are (replay history))) ∙ found

  -- one channel is changed
  pub written : (f : ChannelBook → ChannelBook) → ((ch : ChannelBook) → (f ch).state.held.terms ≡ ch.state.held.terms) → (c : ℕ) (x y : ChannelBook) → slice_get (values_of channels) c ≡ Some x → y ≡ f x
      → set_value_at channels c y ≡ by_funding (at_index f c (replay history))
  written f same c x y found e = ap (λ es. set_value_at es c y) k.left ∙ changed f same c (replay history) x y (stands c x found) e

  -- one more channel
  pub joined : (ch : ChannelBook) → channels ++ (ch.state.held.terms.funding, ch) ∷ [] ≡ by_funding (replay history ++ ch ∷ [])
  joined ch = ap (λ es. es ++ (ch.state.held.terms.funding, ch) ∷ []) k.left ∙ sym (map-append (λ (c : ChannelBook). (c.state.held.terms.funding, c)) (replay history) (ch ∷ []))

  -- a channel did not change
  pub left_alone : (new : List Entry) → new ≡ history → (c : ℕ) (x y : ChannelBook) → slice_get (values_of channels) c ≡ Some x → y ≡ x → AreLeft new (set_value_at channels c y)
  left_alone new is c x y found e = record {
    accepted = ap (all_accepted peer_tokens) is ∙ k.accepted;
    whole = subst AreWhole (sym is) k.whole;
    left = ap (λ es. set_value_at es c y) k.left ∙ unchanged c (replay history) x y (stands c x found) e ∙ ap (λ h. by_funding (replay h)) (sym is);
  }
