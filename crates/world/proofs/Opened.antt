-- What is true of the channels that are opened.
use Rattle.std.proofs.Common.{◌≡◌, ℕ, zero, suc, ◌<◌, Bool, true, false, not, ◌||◌, nat_le, List, [], ◌∷◌, ◌++◌, length, Some, None, refl, sym, ap, ◌∙◌, subst, arith, length-append}
use Rattle.std.specs.Prelude.{nat_lt, if◌then◌else◌, Ok, Err}
use Rattle.std.specs.Result.{result_ok}
use Rattle.std.specs.List.{list_any}
use Rattle.std.specs.Str.{bytes_eq}
use Rattle.std.proofs.lemmas.Bool.{leb-true}
use Rattle.std.proofs.lemmas.List.{reverse-append, map-append}
use Rattle.std.proofs.lemmas.Slice.Eq.{bytes_eq-Decides}
use Rattle.script.specs.Spelling.{spelling}
use Rattle.sha2.proofs.Facts256.{length-sha256}
use Rattle.tx.specs.declared.limits.TheConstants.{MAX_VALUE, MAX_BYTES}
use Rattle.tx.specs.declared.errors.FieldError.TheVariants.{ValueTooLarge, OverLimit}
use Rattle.tx.specs.Parts.{Output}
use Rattle.tx.specs.declared.input.OutPoint.{OutPoint}
use Rattle.tx.specs.Fields.{same_outpoint}
use Rattle.chain.specs.Blocks.{grant_outpoint}
use Rattle.terms.specs.declared.sides.Side.{Side}
use Rattle.terms.specs.declared.sides.Side.TheVariants.{A, B}
use Rattle.terms.specs.declared.agreement.Terms.{Terms}
use Rattle.terms.specs.Sides.{other}
use Rattle.terms.specs.Scripts.{funding}
use Rattle.sighash.specs.Programs.{script_hash_program}
use Rattle.commit.specs.Signing.{funding_script}
use Rattle.channel.specs.Points.{point_at}
use Rattle.channel.specs.States.{first_of, state_at_opening as opened_state}
use Rattle.channel.specs.Tokens.{peer_tokens}
use Rattle.channel.specs.Peers.{at_opening, opened_both, IsReached}
use Rattle.channel.specs.Playing.{placed}
use Rattle.channel.specs.Agreeing.{IsPaired}
use Rattle.terms.specs.declared.proposals.ProposedTerms.{ProposedTerms}
use Rattle.book.specs.declared.limits.TheConstants.{MAX_CHANNELS}
use Rattle.book.specs.declared.calls.Opening.{Opening}
use Rattle.book.specs.declared.calls.Call.{Call}
use Rattle.book.specs.declared.calls.Entry.{Entry}
use Rattle.book.specs.declared.errors.OpenError.TheVariants.{BookFull, SameFunding, BadSignature}
use Rattle.book.specs.Books.{ChannelBook, Channels, opened_by, channels_after, replayed, replay, fundings_of}
use Rattle.book.specs.Replies.{opened, unless, if_so, open_refusal, is_accepted, reply_of, extended, history_after}
use Rattle.scenario.specs.declared.seeds.Seeds.{Seeds}
use Rattle.world.specs.Opening.{seed_in, funding_output, funding_if_within, point_in, IsOpeningOf}
use Rattle.world.specs.Agreeing.{FundingsAreSpent, OpeningsArePaired, first_grants, OpeningsAreTaken}
use Rattle.world.proofs.Grants.{apart}

-- ---- the funding output

pub fundings_are_spent : FundingsAreSpent
unfolding funding_script
fundings_are_spent seeds c o p t h =
    λ i. record {
      value = sym h.capacity_is i;
      script = script_hash_program (spelling (funding (sym h.a_is i).bases.funding.bytes (sym h.b_is i).bases.funding.bytes));
    }

-- a script hash program has 34 bytes, fewer than the limit of an output
short : (s : List ℕ) → nat_lt MAX_BYTES (length (script_hash_program s)) ≡ false
unfolding script_hash_program
short s = rw (length-sha256 s) refl

made : (long big : Bool) (o : Output) → big ≡ false → result_ok (if long then Err ValueTooLarge else if big then Err OverLimit else Ok o) ≡ (if long then None else Some o)
made true big o h = refl
made false big o h = rw (h) refl

pub funded : (seeds : Seeds) (c : ℕ) (p : ProposedTerms) (script : List ℕ) → script ≡ (funding_output seeds c p).script
    → result_ok (if nat_lt MAX_VALUE p.capacity_sat then Err ValueTooLarge else if nat_lt MAX_BYTES (length script) then Err OverLimit else Ok (record { value = p.capacity_sat; script = script }))
    ≡ funding_if_within seeds c p
funded seeds c p script e =
    ap (λ (s : List ℕ). result_ok (if nat_lt MAX_VALUE p.capacity_sat then Err ValueTooLarge else if nat_lt MAX_BYTES (length s) then Err OverLimit else Ok (record { value = p.capacity_sat; script = s }))) e
    ∙ made (nat_lt MAX_VALUE p.capacity_sat) (nat_lt MAX_BYTES (length (funding_output seeds c p).script)) (funding_output seeds c p) (short _)

-- ---- both sides

state_is : (seeds : Seeds) (c : ℕ) (side : Side) (t : Terms) (o : Opening) → IsOpeningOf seeds c side t o
    → (opened_by o).state ≡ opened_state t side (seed_in seeds c side) (point_in seeds c (other side) 0) (point_in seeds c (other side) 1)
state_is seeds c side t o h = λ i. opened_state (h.terms_is i) (h.side_is i) (h.seed_is i) (h.first_point_is i) (h.next_point_is i)

-- A's channel and B's
both : (seeds : Seeds) (c : ℕ) (t : Terms) (a b : Opening) → (opened_by a).state ≡ (opened_both t (seed_in seeds c A) (seed_in seeds c B)).a → (opened_by b).state ≡ (opened_both t (seed_in seeds c A) (seed_in seeds c B)).b
    → IsPaired peer_tokens (placed A (opened_by a).state (opened_by b).state [] [])
both seeds c t a b ea eb =
    record {
      terms = t;
      seed_a = seed_in seeds c A;
      seed_b = seed_in seeds c B;
      reached = subst (IsReached peer_tokens t (seed_in seeds c A) (seed_in seeds c B)) (λ i. placed A (sym ea i) (sym eb i) [] []) at_opening;
    }

pub openings_are_paired : OpeningsArePaired
openings_are_paired seeds c t A mine peers h g = both seeds c t mine peers (state_is seeds c A t mine h) (state_is seeds c B t peers g)
openings_are_paired seeds c t B mine peers h g = both seeds c t peers mine (state_is seeds c A t peers g) (state_is seeds c B t mine h)

-- ---- the books

-- there are as many outpoints as grants
count_grants : (c : ℕ) → length (first_grants c) ≡ c
count_grants zero = refl
count_grants (suc c) = let s = count_grants c in omega (arith, length-append (first_grants c) (grant_outpoint c ∷ []))

count_fundings : (chs : Channels) → length chs ≡ length (fundings_of chs)
count_fundings [] = refl
count_fundings (ch ∷ chs) = ap suc (count_fundings chs)

any_funding : (p : OutPoint) (chs : Channels) → list_any (λ ch. same_outpoint ch.state.held.terms.funding p) chs ≡ list_any (λ q. same_outpoint q p) (fundings_of chs)
any_funding p [] = refl
any_funding p (ch ∷ chs) = ap (λ b. same_outpoint ch.state.held.terms.funding p || b) (any_funding p chs)

not_full : (c : ℕ) → c < 8 → nat_le MAX_CHANNELS c ≡ false
not_full c l = go (nat_le MAX_CHANNELS c) refl
  where
    go : (b : Bool) → nat_le MAX_CHANNELS c ≡ b → b ≡ false
    go true h = let m = leb-true MAX_CHANNELS c h in absurd (omega arith)
    go false h = refl

passes : (full same good : Bool) → full ≡ false → same ≡ false → good ≡ true → if_so full BookFull (if_so same SameFunding (if_so (not good) BadSignature None)) ≡ None
passes full same good ef es eg = rw (ef, es, eg) refl

token_is_good : (seeds : Seeds) (c : ℕ) (side : Side) (t : Terms) (o : Opening) → IsOpeningOf seeds c side t o
    → bytes_eq o.token (peer_tokens o.terms (first_of o.terms o.side (point_at o.seed 0))).commitment ≡ true
token_is_good seeds c side t o h =
    (bytes_eq-Decides o.token (peer_tokens o.terms (first_of o.terms o.side (point_at o.seed 0))).commitment).1
    (h.token_is ∙ sym (λ i. (peer_tokens (h.terms_is i) (first_of (h.terms_is i) (h.side_is i) (point_at (h.seed_is i) 0))).commitment))

not_refused : (seeds : Seeds) (c : ℕ) (side : Side) (t : Terms) (o : Opening) (chs : Channels) → IsOpeningOf seeds c side t o → t.funding ≡ grant_outpoint c → c < 8
    → fundings_of chs ≡ first_grants c → open_refusal peer_tokens chs o ≡ None
not_refused seeds c side t o chs h funding l same =
    passes _ _ _
    (ap (nat_le MAX_CHANNELS) (count_fundings chs ∙ ap length same ∙ count_grants c) ∙ not_full c l)
    (any_funding o.terms.funding chs ∙ ap (λ p. list_any (λ q. same_outpoint q p) (fundings_of chs)) (ap (λ (u : Terms). u.funding) h.terms_is ∙ funding)
    ∙ ap (list_any (λ q. same_outpoint q (grant_outpoint c))) same ∙ apart c l)
    (token_is_good seeds c side t o h)

-- one more entry
replay_more : (history : List Entry) (e : Entry) → replay (history ++ e ∷ []) ≡ channels_after e.call (replay history)
replay_more history e = ap replayed (reverse-append history (e ∷ []))

pub openings_are_taken : OpeningsAreTaken
openings_are_taken seeds c seat t side o history h funding l same =
    let chs = replay history in
    let count : length chs ≡ c = count_fundings chs ∙ ap length same ∙ count_grants c in
    let reply : reply_of peer_tokens history (Call.Open o) ≡ opened (Ok c) =
    ap (λ r. opened (unless (λ e. e) r (length chs))) (not_refused seeds c side t o chs h funding l same) ∙ ap (λ n. opened (Ok n)) count in
    let channels : replay (history_after peer_tokens history seat (Call.Open o)) ≡ chs ++ opened_by o ∷ [] =
    ap (λ r. replay (extended (is_accepted r) history seat (Call.Open o))) reply ∙ replay_more history (record { seat = seat; call = Call.Open o }) in (
      reply,
      channels,
      ap fundings_of channels ∙ map-append (λ (ch : ChannelBook). ch.state.held.terms.funding) chs (opened_by o ∷ [])
          ∙ ap (λ xs. xs ++ o.terms.funding ∷ []) same ∙ ap (λ p. first_grants c ++ p ∷ []) (ap (λ (u : Terms). u.funding) h.terms_is ∙ funding),
    )
