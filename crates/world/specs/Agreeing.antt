-- Openings of both sides: the commitments spend the funding output, the two channels are the two ends of one, and the books take the openings.
use Rattle.std.specs.Prelude.{◌≡◌, ℕ, zero, suc, ◌<◌, List, [], ◌∷◌, ◌++◌, Ok}
use Rattle.tx.specs.declared.input.OutPoint.{OutPoint}
use Rattle.chain.specs.Blocks.{grant_outpoint}
use Rattle.terms.specs.declared.sides.Side.{Side}
use Rattle.terms.specs.declared.agreement.Terms.{Terms}
use Rattle.terms.specs.Sides.{other}
use Rattle.sighash.specs.Programs.{script_hash_program}
use Rattle.commit.specs.Signing.{funding_script}
use Rattle.channel.specs.Tokens.{peer_tokens}
use Rattle.channel.specs.Playing.{placed}
use Rattle.channel.specs.Agreeing.{IsPaired}
use Rattle.terms.specs.declared.proposals.ProposedTerms.{ProposedTerms}
use Rattle.book.specs.declared.calls.Opening.{Opening}
use Rattle.book.specs.declared.calls.Call.{Call}
use Rattle.book.specs.declared.calls.Entry.{Entry}
use Rattle.book.specs.Books.{opened_by, replay, fundings_of}
use Rattle.book.specs.Replies.{opened, reply_of, history_after}
use Rattle.scenario.specs.declared.seeds.Seeds.{Seeds}
use Rattle.world.specs.Opening.{funding_output, AreTermsOf, IsOpeningOf}

-- the funding output is the one that the commitments of these terms spend
abbrev pub FundingsAreSpent : Type 0
FundingsAreSpent =
    (seeds : Seeds) (channel : ℕ) (outpoint : OutPoint) (plain : ProposedTerms) (terms : Terms) → AreTermsOf seeds channel outpoint plain terms
    → funding_output seeds channel plain ≡ record { value = terms.capacity_sat; script = script_hash_program (funding_script terms) }

-- the channels that the two sides open are the two ends of one, with no message on its way
abbrev pub OpeningsArePaired : Type 0
OpeningsArePaired =
    (seeds : Seeds) (channel : ℕ) (terms : Terms) (side : Side) (mine peers : Opening) → IsOpeningOf seeds channel side terms mine → IsOpeningOf seeds channel (other side) terms peers
    → IsPaired peer_tokens (placed side (opened_by mine).state (opened_by peers).state [] [])

-- the first outpoints that a chain grants
abbrev pub first_grants : ℕ → List OutPoint
first_grants zero = []
first_grants (suc n) = first_grants n ++ grant_outpoint n ∷ []

-- a book with c channels, on the first grants of a chain, takes the opening of the next one, which is on the next grant
abbrev pub OpeningsAreTaken : Type 0
OpeningsAreTaken =
    (seeds : Seeds) (channel seat : ℕ) (terms : Terms) (side : Side) (opening : Opening) (history : List Entry) → IsOpeningOf seeds channel side terms opening
    → terms.funding ≡ grant_outpoint channel → channel < 8 → fundings_of (replay history) ≡ first_grants channel
    → (reply_of peer_tokens history (Call.Open opening) ≡ opened (Ok channel))
    × (replay (history_after peer_tokens history seat (Call.Open opening)) ≡ replay history ++ opened_by opening ∷ [])
    × (fundings_of (replay (history_after peer_tokens history seat (Call.Open opening))) ≡ first_grants (suc channel))
