-- What becomes of outputs, whatever peers and blocks do: the preimage that is shown, the expiry, the delay, and for each output of a commitment the one that stands for it.
use Rattle.std.proofs.Common.{◌≡◌, ◌≢◌, ℕ, Bool, true, false, List, [], ◌∷◌, ◌++◌, length, replicate, Some, sym, ap, ◌∙◌, refl, subst, arith, lit<}
use Rattle.std.specs.Prelude.{if◌then◌else◌}
use Rattle.std.specs.List.{Contains, AllPairs, cons_option}
use Rattle.std.proofs.lemmas.Bool.{true≢false}
use Rattle.std.proofs.lemmas.Option.{same_Some}
use Rattle.std.proofs.lemmas.List.Elements.{All-nil}
use Rattle.std.proofs.lemmas.List.Kept.{AllPairs-cons}
use Rattle.sha2.specs.Sha256.{sha256, digest_bytes, hash_after, compress, rounds, schedule, first_words}
use Rattle.tx.specs.declared.input.OutPoint.{OutPoint}
use Rattle.tx.specs.declared.input.TxIn.{TxIn}
use Rattle.tx.specs.Parts.{Output}
use Rattle.tx.specs.Fields.{Transaction}
use Rattle.tx.specs.Spelling.{transaction_id}
use Rattle.chain.specs.Blocks.{Contents as Block, Coin, grant_outpoint, coin_at}
use Rattle.terms.specs.declared.htlcs.Htlc.{Htlc}
use Rattle.claim.specs.Fitting.{output_at}
use Rattle.forms.specs.Forms.{to_local_form}
use Rattle.commit.specs.declared.fees.Direction.{Direction}
use Rattle.commit.specs.declared.fees.Direction.TheVariants.{Offered, Received}
use Rattle.commit.specs.declared.outputs.OutputKind.{OutputKind}
use Rattle.commit.specs.declared.outputs.OutputKind.TheVariants.{ToLocal, ToHtlc}
use Rattle.commit.specs.declared.outputs.CommitmentOutput.{CommitmentOutput}
use Rattle.commit.specs.declared.outputs.HtlcOutput.{HtlcOutput}
use Rattle.commit.specs.Commitments.{Contents, id_of, htlc_at, htlcs_from, htlcs_of, htlc_tx_of}
use Rattle.penalty.specs.Claimable.{Claimable, penalty_on, htlc_penalty_on, second_stage_penalty, claims_by}
use Rattle.penalty.specs.Worth.{stage_on, staged}
use Rattle.safety.specs.Whereabouts.{IsOnChain, IsNamedBy, IsCoinOf}
use Rattle.safety.specs.Places.{place_at}
use Rattle.safety.specs.Holdings.{Holding}
use Rattle.safety.specs.Breaks.{Breaks}
use Rattle.safety.specs.Resolutions.{WasReleased, Resolution, unspent, ours, lost, broken, IsSlept, AreResolved, ShowsPreimage, IsOnHtlc, IsPaidOrLate, paid, late}
use Rattle.safety.proofs.Lists.{none_some, contains_none}
use Rattle.law_examples.proofs.Ones.{only, granting, coin_from, granted_there, naming, taker, with_taker, taker_stands, taken_there}
use Rattle.law_examples.proofs.Rules.{is_offered, never_released}

-- ---- preimages

-- the SHA-256 of 32 bytes 7
abbrev hash_of_sevens : List ℕ
hash_of_sevens = 0x4b ∷ 0xb0 ∷ 0x6f ∷ 0x8e ∷ 0x4e ∷ 0x3a ∷ 0x77 ∷ 0x15 ∷ 0xd2 ∷ 0x01 ∷ 0xd5 ∷ 0x73 ∷ 0xd0 ∷ 0xaa ∷ 0x42 ∷ 0x37 ∷ 0x62 ∷ 0xe5 ∷ 0x5d ∷ 0xab ∷ 0xd6 ∷ 0x1a ∷ 0x2c ∷ 0x02 ∷ 0x27 ∷ 0x8f ∷ 0xa5 ∷ 0x6c ∷ 0xc6 ∷ 0xd2 ∷ 0x94 ∷ 0xe0 ∷ []

-- yes: ShowsPreimage
shows_sevens : (x : List ℕ) → ShowsPreimage (x ∷ replicate 32 7 ∷ []) hash_of_sevens
unfolding sha256 digest_bytes hash_after compress rounds schedule first_words
shows_sevens x = record { item = replicate 32 7; shown = (1, lit< tt, refl); long = refl; hashed = refl }

module _ (x hash : List ℕ) where
  -- no: ShowsPreimage
  shows_a_byte_more : length x ≡ 33 → ShowsPreimage (x ∷ []) hash → ⊥
  shows_a_byte_more e p = let l = p.long in let f = ap length (only x p.item p.shown) in omega (arith, e, l, f)

  -- no: ShowsPreimage
  shows_a_byte_less : length x ≡ 31 → ShowsPreimage (x ∷ []) hash → ⊥
  shows_a_byte_less e p = let l = p.long in let f = ap length (only x p.item p.shown) in omega (arith, e, l, f)

  -- no: ShowsPreimage
  shows_another : sha256 x ≢ hash → ShowsPreimage (x ∷ []) hash → ⊥
  shows_another n p = n (ap sha256 (only x p.item p.shown) ∙ p.hashed)

  -- no: ShowsPreimage
  shows_nothing : ShowsPreimage [] hash → ⊥
  shows_nothing p = contains_none p.item p.shown

-- ---- an HTLC's output

module _ (c : Contents) (o : Claimable) (coin : Coin) (input : TxIn) (htlc : Htlc) (expiry_height : htlc.expiry_height ≡ 500) where
  abbrev third : Direction → HtlcOutput
  third direction = record { index = 2; direction = direction; htlc = htlc }

  abbrev output : ℕ → OutPoint
  output index = record { txid = id_of c; index = index }

  module _ (direction : Direction) (only_one : htlcs_of c ≡ third direction ∷ []) where
    among_them : Contains (htlcs_of c) (third direction)
    among_them = subst (λ (xs : List HtlcOutput). Contains xs (third direction)) (sym only_one) (0, lit< tt, refl)

    is_third : (x : HtlcOutput) → Contains (htlcs_of c) x → third direction ≡ x
    is_third x i = only (third direction) x (subst (λ (xs : List HtlcOutput). Contains xs x) only_one i)

    -- yes: IsOnHtlc
    on_third : o.place.outpoint ≡ output 2 → IsOnHtlc c (third direction) o
    on_third e = record { among = among_them; at = e }

    -- no: IsOnHtlc
    on_fourth : o.place.outpoint ≡ output 3 → IsOnHtlc c (third direction) o → ⊥
    on_fourth e i = let f = ap (λ (p : OutPoint). p.index) (sym e ∙ i.at) in omega (arith, f)

    -- no: IsOnHtlc
    on_its_transaction : o.place.outpoint ≡ record { txid = transaction_id (htlc_tx_of c (third direction)); index = 0 } → IsOnHtlc c (third direction) o → ⊥
    on_its_transaction e i = let f = ap (λ (p : OutPoint). p.index) (sym e ∙ i.at) in omega (arith, f)

    -- no: IsOnHtlc
    of_no_htlc : (x : HtlcOutput) → x.index ≡ 1 → IsOnHtlc c x o → ⊥
    of_no_htlc x e i = let f : 2 ≡ x.index = ap (λ (y : HtlcOutput). y.index) (is_third x i.among) in omega (arith, e, f)

  -- the node had offered it: with the preimage, in any block
  module _ (only_one : htlcs_of c ≡ third Received ∷ []) where
    -- yes: IsPaidOrLate
    paid_early : o.place.outpoint ≡ output 2 → ShowsPreimage input.witness htlc.hash → IsPaidOrLate false c o coin 1 input
    paid_early e p = paid (third Received) (on_third Received only_one e) refl p

    -- no: IsPaidOrLate
    unpaid_after_its_expiry : (ShowsPreimage input.witness htlc.hash → ⊥) → IsPaidOrLate false c o coin 501 input → ⊥
    unpaid_after_its_expiry n (paid x on d p) = n (subst (λ (y : HtlcOutput). ShowsPreimage input.witness y.htlc.hash) (sym (is_third Received only_one x on.among)) p)
    unpaid_after_its_expiry n (late x on d l) = true≢false (ap is_offered (sym d ∙ sym (ap (λ (y : HtlcOutput). y.direction) (is_third Received only_one x on.among))))

  -- the peer had offered it: above the expiry, whatever is shown
  module _ (only_one : htlcs_of c ≡ third Offered ∷ []) where
    -- yes: IsPaidOrLate
    late_above_its_expiry : o.place.outpoint ≡ output 2 → IsPaidOrLate false c o coin 501 input
    late_above_its_expiry e = late (third Offered) (on_third Offered only_one e) refl (omega (arith, expiry_height))

    -- no: IsPaidOrLate
    taken_at_its_expiry : IsPaidOrLate false c o coin 500 input → ⊥
    taken_at_its_expiry (paid x on d p) = true≢false (ap is_offered (ap (λ (y : HtlcOutput). y.direction) (is_third Offered only_one x on.among) ∙ d))
    taken_at_its_expiry (late x on d l) =
        let e : 500 ≡ x.htlc.expiry_height = sym expiry_height ∙ ap (λ (y : HtlcOutput). y.htlc.expiry_height) (is_third Offered only_one x on.among) in
        omega (arith, e, l)

  -- to_remote, and whatever else is no HTLC
  -- no: IsPaidOrLate
  of_another_output : (direction : Direction) → htlcs_of c ≡ third direction ∷ [] → o.place.outpoint ≡ output 3 → ShowsPreimage input.witness htlc.hash → IsPaidOrLate false c o coin 501 input → ⊥
  of_another_output direction only_one e p (paid x on d q) = on_fourth direction only_one e (subst (λ (y : HtlcOutput). IsOnHtlc c y o) (sym (is_third direction only_one x on.among)) on)
  of_another_output direction only_one e p (late x on d l) = on_fourth direction only_one e (subst (λ (y : HtlcOutput). IsOnHtlc c y o) (sym (is_third direction only_one x on.among)) on)

-- ---- the delay

module _ (c : Contents) (o : Claimable) (out : Output) (input : TxIn) (delay_blocks : c.delay_blocks ≡ 144) where
  abbrev coin_of_hundred : Coin
  coin_of_hundred = record { output = out; height = 100; spent = true }

  -- yes: IsSlept
  slept : o.form ≡ to_local_form c.keys.revocation c.delay_blocks c.keys.delayed → IsSlept c o coin_of_hundred 244 input
  slept e = record { form = e; late = omega (arith, delay_blocks) }

  -- no: IsSlept
  slept_a_block_less : IsSlept c o coin_of_hundred 243 input → ⊥
  slept_a_block_less s = let l = s.late in omega (arith, delay_blocks, l)

  -- no: IsSlept
  in_another_form : (o.form ≡ to_local_form c.keys.revocation c.delay_blocks c.keys.delayed → ⊥) → IsSlept c o coin_of_hundred 244 input → ⊥
  in_another_form n s = n s.form

-- ---- what became of an output

module _ (h : Holding) (o : Claimable) (Lost : Coin → ℕ → TxIn → Type 0) (out : Output) (outputs : List Output) (witness : List (List ℕ)) (at : o.place.outpoint ≡ grant_outpoint 0) where
  abbrev chain : List Block
  chain = with_taker out outputs witness

  taken_now : coin_at chain o.place.outpoint ≡ Some (record { output = out; height = 1; spent = true })
  taken_now = ap (coin_at chain) at ∙ taken_there out outputs witness

  named_now : IsNamedBy chain o 2 (taker out outputs witness) (naming out outputs witness)
  named_now = record { stands = taker_stands out outputs witness; within = (0, lit< tt, refl); names = sym at }

  -- yes: Resolution
  still_there : out ≡ output_at o.place → Resolution Breaks (h ∷ []) (granting out) Lost o
  still_there e = unspent (coin_from out 1) (record { there = ap (coin_at (granting out)) at ∙ granted_there out; output = e }) refl

  -- yes: Resolution
  taken_by_the_node : WasReleased (h ∷ []) (taker out outputs witness) → Resolution Breaks (h ∷ []) chain Lost o
  taken_by_the_node r = ours 2 (taker out outputs witness) (naming out outputs witness) named_now r

  -- by the height of the input's block, and by the coin of the output's
  -- yes: Resolution
  taken_fairly : out ≡ output_at o.place → Lost (record { output = out; height = 1; spent = true }) 2 (naming out outputs witness) → Resolution Breaks (h ∷ []) chain Lost o
  taken_fairly e l = lost (record { output = out; height = 1; spent = true }) (record { there = taken_now; output = e }) 2 (taker out outputs witness) (naming out outputs witness) named_now l

  -- yes: Resolution
  strings_collide : Breaks (h ∷ []) chain → Resolution Breaks (h ∷ []) chain Lost o
  strings_collide b = broken b

  -- a stranger took it, where nothing is lost
  -- no: Resolution
  taken_by_a_stranger : h.releases ≡ [] → (Breaks (h ∷ []) chain → ⊥) → Resolution Breaks (h ∷ []) chain (λ coin height input. ⊥) o → ⊥
  taken_by_a_stranger e n (unspent coin c free) =
      let s : true ≡ coin.spent = ap (λ (x : Coin). x.spent) (same_Some (record { output = out; height = 1; spent = true }) coin (sym taken_now ∙ c.there)) in
      true≢false (s ∙ free)
  taken_by_a_stranger e n (ours height t input i r) = never_released h t e r
  taken_by_a_stranger e n (lost coin c height t input i l) = l
  taken_by_a_stranger e n (broken b) = n b

-- no: Resolution
nowhere_to_be_found : (hs : List Holding) (Lost : Coin → ℕ → TxIn → Type 0) (o : Claimable) → (Breaks hs [] → ⊥) → ((t : Transaction) → WasReleased hs t → ⊥) → Resolution Breaks hs [] Lost o → ⊥
nowhere_to_be_found hs Lost o n none (unspent coin c free) = none_some coin c.there
nowhere_to_be_found hs Lost o n none (ours height t input i r) = none t r
nowhere_to_be_found hs Lost o n none (lost coin c height t input i l) = none_some coin c.there
nowhere_to_be_found hs Lost o n none (broken b) = n b

-- ---- the outputs of a commitment

abbrev pub Apart : Claimable → Claimable → Type 0
Apart o p = o.place.outpoint ≢ p.place.outpoint

pub one_apart : (o : Claimable) → AllPairs Apart (o ∷ [])
one_apart o = AllPairs-cons Apart o [] (All-nil (Apart o)) (λ i j d l m. absurd (omega (arith, m)))

-- a commitment with to_local alone
module _ (c : Contents) (out : CommitmentOutput) (there : c.outputs ≡ out ∷ []) (kind : out.kind ≡ ToLocal) where
  abbrev pub to_local : Claimable
  to_local = penalty_on c (place_at c 0 out)

  pub local_alone : (stands : ℕ → Bool) → staged stands c ≡ to_local ∷ []
  unfolding claims_by
  local_alone stands = ap (λ (os : List CommitmentOutput). claims_by (stage_on stands c) c 0 os) there ∙ ap (λ (k : OutputKind). stage_on stands c 0 (place_at c 0 out) k ++ []) kind

  pub no_htlcs : htlcs_of c ≡ []
  unfolding htlcs_from
  no_htlcs = ap (λ (os : List CommitmentOutput). htlcs_from 0 os) there ∙ ap (λ (k : OutputKind). cons_option (htlc_at 0 k) []) kind

  -- yes: AreResolved
  local_is_unspent : (hs : List Holding) (blocks : List Block) (coin : Coin) → IsCoinOf blocks to_local coin → coin.spent ≡ false → AreResolved hs blocks c
  local_is_unspent hs blocks coin at free = record {
    stands = λ n. false;
    those = λ x i. absurd (contains_none x (subst (λ (xs : List HtlcOutput). Contains xs x) no_htlcs i));
    apart = subst (AllPairs Apart) (sym (local_alone (λ n. false))) (one_apart to_local);
    each = λ o i. subst (λ (p : Claimable). Resolution Breaks hs blocks (IsSlept c p) p) (only to_local o (subst (λ (os : List Claimable). Contains os o) (local_alone (λ n. false)) i)) (unspent coin at free);
  }

  -- no: AreResolved
  local_is_lost : (hs : List Holding) (blocks : List Block) → (Resolution Breaks hs blocks (IsSlept c to_local) to_local → ⊥) → AreResolved hs blocks c → ⊥
  local_is_lost hs blocks n r = n (r.each to_local (subst (λ (os : List Claimable). Contains os to_local) (sym (local_alone r.stands)) (0, lit< tt, refl)))

-- a commitment with the output of an HTLC alone
module _ (c : Contents) (out : CommitmentOutput) (direction : Direction) (htlc : Htlc) (there : c.outputs ≡ out ∷ []) (kind : out.kind ≡ ToHtlc direction htlc) where
  abbrev it : HtlcOutput
  it = record { index = 0; direction = direction; htlc = htlc }

  abbrev first_of_it : Claimable
  first_of_it = htlc_penalty_on c direction htlc (place_at c 0 out)

  abbrev second_of_it : Claimable
  second_of_it = second_stage_penalty c it

  htlc_alone : (stands : ℕ → Bool) → staged stands c ≡ (if stands 0 then second_of_it else first_of_it) ∷ []
  unfolding claims_by
  htlc_alone stands = ap (λ (os : List CommitmentOutput). claims_by (stage_on stands c) c 0 os) there ∙ ap (λ (k : OutputKind). stage_on stands c 0 (place_at c 0 out) k ++ []) kind

  htlcs_are : htlcs_of c ≡ it ∷ []
  unfolding htlcs_from
  htlcs_are = ap (λ (os : List CommitmentOutput). htlcs_from 0 os) there ∙ ap (λ (k : OutputKind). cons_option (htlc_at 0 k) []) kind

  it_is_among : Contains (htlcs_of c) it
  it_is_among = subst (λ (xs : List HtlcOutput). Contains xs it) (sym htlcs_are) (0, lit< tt, refl)

  staged_by : (stands : ℕ → Bool) (b : Bool) → stands 0 ≡ b → staged stands c ≡ (if b then second_of_it else first_of_it) ∷ []
  staged_by stands b e = htlc_alone stands ∙ ap (λ (x : Bool). (if x then second_of_it else first_of_it) ∷ []) e

  module _ (hs : List Holding) (blocks : List Block) where
    -- its transaction is on the chain, and the output of that stands for it
    -- yes: AreResolved
    second_is_unspent : IsOnChain blocks (htlc_tx_of c it) → (coin : Coin) → IsCoinOf blocks second_of_it coin → coin.spent ≡ false → AreResolved hs blocks c
    second_is_unspent on coin at free = record {
      stands = λ n. true;
      those = λ x i. ((λ e. subst (λ (y : HtlcOutput). IsOnChain blocks (htlc_tx_of c y)) (only it x (subst (λ (xs : List HtlcOutput). Contains xs x) htlcs_are i)) on), (λ o. refl));
      apart = subst (AllPairs Apart) (sym (htlc_alone (λ n. true))) (one_apart second_of_it);
      each = λ o i. subst (λ (p : Claimable). Resolution Breaks hs blocks (IsSlept c p) p) (only second_of_it o (subst (λ (os : List Claimable). Contains os o) (htlc_alone (λ n. true)) i)) (unspent coin at free);
    }

    -- no: AreResolved
    second_is_lost : IsOnChain blocks (htlc_tx_of c it) → (Resolution Breaks hs blocks (IsSlept c second_of_it) second_of_it → ⊥) → AreResolved hs blocks c → ⊥
    second_is_lost on n r = n (r.each second_of_it (subst (λ (os : List Claimable). Contains os second_of_it) (sym (staged_by r.stands true ((r.those it it_is_among).1 on))) (0, lit< tt, refl)))

    -- without it the output itself does
    -- no: AreResolved
    first_is_lost : (IsOnChain blocks (htlc_tx_of c it) → ⊥) → (Resolution Breaks hs blocks (IsSlept c first_of_it) first_of_it → ⊥) → AreResolved hs blocks c → ⊥
    first_is_lost off n r = by (r.stands 0) refl
      where
        by : (b : Bool) → r.stands 0 ≡ b → ⊥
        by true e = off ((r.those it it_is_among).0 e)
        by false e = n (r.each first_of_it (subst (λ (os : List Claimable). Contains os first_of_it) (sym (staged_by r.stands false e)) (0, lit< tt, refl)))

-- no: AreResolved
two_at_one_outpoint : (hs : List Holding) (blocks : List Block) (c : Contents) (o p : Claimable) (r : AreResolved hs blocks c) → staged r.stands c ≡ o ∷ p ∷ [] → o.place.outpoint ≡ p.place.outpoint → ⊥
two_at_one_outpoint hs blocks c o p r e same = subst (AllPairs Apart) e r.apart 0 1 o (lit< tt) (lit< tt) same
