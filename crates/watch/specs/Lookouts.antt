-- A watch that reads many blocks by what is known of its channel.
use Rattle.std.specs.Prelude.{◌≡◌, ℕ, Bool, true, false, List, ◌++◌, Option, Some, None}
use Rattle.std.specs.List.{list_any, list_all}
use Rattle.std.specs.Str.{bytes_eq}
use Rattle.sha2.specs.Sha256.{sha256}
use Rattle.commit.specs.declared.outputs.HtlcOutput.{HtlcOutput}
use Rattle.commit.specs.Commitments.{Contents, htlcs_of}
use Rattle.resolve.specs.declared.verdicts.Verdict.{Verdict}
use Rattle.resolve.specs.declared.verdicts.Verdict.TheVariants.{Ours, Theirs, TheirsNext, Revoked, Unknown}
use Rattle.resolve.specs.declared.known.Known.{Known}
use Rattle.watch.specs.declared.spends.Spend.{Spend}
use Rattle.watch.specs.Verdicts.{verdict_of}
use Rattle.watch.specs.Watching.{Seen, due_by, is_given}

-- what the watch has read and given, and what is known of its channel
pub record LookoutParts : Type 0 where
  pub seen : Seen
  pub known : Known

-- what is known, with more preimages
abbrev pub with_learnt : List (List ℕ) → Known → Known
with_learnt preimages known = record known { preimages = known.preimages ++ preimages }

-- all that is due by the transactions read was given
abbrev pub IsSettled : Seen → Known → Type 0
IsSettled seen known = list_all (is_given seen.given) (due_by known seen.spends) ≡ true

-- the preimage has the hash of an HTLC, or one of the preimages has
abbrev pub pays : List HtlcOutput → List ℕ → Bool
pays htlcs x = list_any (λ h. bytes_eq (sha256 x) h.htlc.hash) htlcs

abbrev pub some_is_paid : List (List ℕ) → List HtlcOutput → Bool
some_is_paid preimages htlcs = list_any (pays htlcs) preimages

abbrev pub next_is_paid : List (List ℕ) → Option Contents → Bool
next_is_paid preimages None = false
next_is_paid preimages (Some c) = some_is_paid preimages (htlcs_of c)

-- more may be due by a verdict once these preimages are known; penalties do not depend on preimages
abbrev pub changes : Known → List (List ℕ) → Verdict → Bool
changes known preimages Ours = some_is_paid preimages (htlcs_of known.own.commitment)
changes known preimages Theirs = some_is_paid preimages (htlcs_of known.theirs)
changes known preimages TheirsNext = next_is_paid preimages known.next
changes known preimages (Revoked n) = false
changes known preimages Unknown = false

-- or by the verdict of one of these transactions
abbrev pub some_changes : Known → List (List ℕ) → List Spend → Bool
some_changes known preimages spends = list_any (λ s. changes known preimages (verdict_of known s.tx)) spends
