-- What a node knows of a channel of its book, by which `resolve` finds what is due on the chain.
use Rattle.std.specs.Prelude.{◌≡◌, ◌↔◌, ℕ, zero, suc, ◌+◌, ◌==◌, Bool, false, List, [], ◌++◌, map, length, Option, Some, None, option_map, unwrap_or, slice_get, if◌then◌else◌}
use Rattle.std.specs.List.{cons_option, filter_map}
use Rattle.keys.specs.Rights.{MaySign}
use Rattle.terms.specs.declared.sides.Side.{Side}
use Rattle.terms.specs.declared.agreement.Terms.{Terms}
use Rattle.terms.specs.declared.views.View.{View}
use Rattle.terms.specs.Sides.{other}
use Rattle.updates.specs.declared.changes.Update.TheVariants.{Fulfil as Fulfilling}
use Rattle.updates.specs.declared.changes.OwnUpdate.TheVariants.{Fulfil}
use Rattle.commit.specs.Commitments.{Contents}
use Rattle.channel.specs.declared.commitments.CommitmentState.{CommitmentState}
use Rattle.updates.specs.declared.messages.Tokens.{Tokens}
use Rattle.channel.specs.Tokens.{contents_of, peer_tokens}
use Rattle.channel.specs.States.{State}
use Rattle.channel.specs.Rights.{rights_of}
use Rattle.resolve.specs.declared.known.SignedCommitment.{SignedCommitment}
use Rattle.resolve.specs.declared.known.RevokedCommitment.{RevokedCommitment}
use Rattle.resolve.specs.declared.known.Known.{Known}
use Rattle.book.specs.declared.calls.Step.{Step}
use Rattle.updates.specs.declared.messages.PeerStep.TheVariants.{Update as Updated}
use Rattle.book.specs.declared.calls.Step.TheVariants.{Own, Peer}
use Rattle.book.specs.declared.calls.Call.{Call}
use Rattle.book.specs.declared.calls.Call.TheVariants.{Step as Stepping}
use Rattle.book.specs.declared.calls.Entry.{Entry}
use Rattle.book.specs.declared.errors.KnowError.{KnowError}
use Rattle.book.specs.declared.errors.KnowError.TheVariants.{NoMemory, NoSuchChannel}
use Rattle.claim.specs.Opcodes.{◌>>=◌}
use Rattle.book.specs.Books.{ChannelBook, is_kept}

-- the values at the numbers below n, in order
abbrev pub below : {A : Type 0} → (ℕ → Option A) → ℕ → List A
below at zero = []
below at (suc n) = below at n ++ cons_option (at n) []

-- whether a flag is there and set
abbrev pub flag_at : List Bool → ℕ → Bool
flag_at flags n = unwrap_or (slice_get flags n) false

-- ---- commitments

-- one's own commitment, with the peer's tokens on it
pub record Signed : Type 0 where
  pub terms : Terms
  pub owner : Side
  pub commitment : Contents
  pub tokens : Tokens

abbrev pub signed_parts : SignedCommitment → Signed
signed_parts s = record { terms = s.terms; owner = s.owner; commitment = s.commitment; tokens = record { commitment = s.token; htlcs = s.htlc_tokens } }

abbrev pub signed_by_peer : Terms → CommitmentState → Signed
signed_by_peer terms c = record { terms = terms; owner = c.owner; commitment = contents_of terms c; tokens = peer_tokens terms c }

-- this side's commitment of a number, with the peer's tokens
abbrev pub own_at : State → ℕ → Option Signed
own_at s n = option_map (signed_by_peer s.held.terms) (slice_get s.mine n)

-- the peer's commitment of a number
abbrev pub theirs_at : State → ℕ → Option Contents
theirs_at s n = option_map (contents_of s.held.terms) (slice_get s.signed n)

-- a commitment that the peer revoked, and whether its penalties are kept
pub record Revoked : Type 0 where
  pub terms : Terms
  pub view : View
  pub owner : Side
  pub number : ℕ
  pub secret : List ℕ
  pub kept : Bool

abbrev pub revoked_parts : RevokedCommitment → Revoked
revoked_parts r =
    record { terms = r.state.terms; view = r.state.view; owner = r.state.owner; number = r.state.number; secret = r.state.secret; kept = r.is_kept }

abbrev pub revoked_by : State → CommitmentState → List ℕ → Bool → Revoked
revoked_by s c secret kept =
    record { terms = s.held.terms; view = c.view; owner = other s.held.side; number = c.number; secret = secret; kept = kept }

-- the peer's commitment of a number, once it is revoked
abbrev pub revoked_at : State → (ℕ → Bool) → ℕ → Option Revoked
revoked_at s kept n = slice_get s.signed n >>= (λ c. option_map (λ secret. revoked_by s c secret (kept n)) (slice_get s.secrets n))

-- ---- preimages

-- the preimage of a fulfil, made or received
abbrev pub preimage_in : Step → Option (List ℕ)
preimage_in (Own (Fulfil id preimage)) = Some preimage
preimage_in (Peer (Updated (Fulfilling id preimage))) = Some preimage
preimage_in step = None

-- the same for a call of this channel
abbrev pub preimage_of : ℕ → Call → Option (List ℕ)
preimage_of c (Stepping d step) = if d == c then preimage_in step else None
preimage_of c call = None

-- the preimages of a channel's fulfils in these entries, in order, with repeats
abbrev pub preimages_in : ℕ → List Entry → List (List ℕ)
preimages_in c entries = filter_map (λ e. preimage_of c e.call) entries

-- ---- all of it

-- what a side in this state knows; `kept` says which revoked commitments have their penalties kept, and `preimages` are those that came
pub record IsKnownOf (s : State) (kept : ℕ → Bool) (preimages : List (List ℕ)) (k : Known) : Type 0 where
  pub terms_are : k.terms ≡ s.held.terms
  pub side_is : k.side ≡ s.held.side
  pub seed_is : k.signer.seed ≡ s.seed
  pub rights_are : (key : List ℕ) → MaySign k.signer key ↔ MaySign (rights_of s) key
  pub own_is : Some (signed_parts k.own) ≡ own_at s s.number
  pub older_are : map signed_parts k.older ≡ below (own_at s) s.number
  pub theirs_is : Some k.theirs ≡ theirs_at s s.peer_number
  pub next_is : k.next ≡ theirs_at s (s.peer_number + 1)  -- there just where its signature awaits the revocation of the one before
  pub revoked_are : map revoked_parts k.revoked ≡ below (revoked_at s kept) (length s.secrets)
  pub preimages_are : k.preimages ≡ preimages

-- what a book knows of a channel, if the channel is there
abbrev pub IsKnownIn : List Entry → ℕ → Option ChannelBook → Known → Type 0
IsKnownIn history c None k = ⊥
IsKnownIn history c (Some ch) k = IsKnownOf ch.state (is_kept ch.kept) (preimages_in c history) k

-- a refusal: there is no such channel, or else memory ran out
abbrev pub IsKnowRefusal : Option ChannelBook → KnowError → Type 0
IsKnowRefusal None e = e ≡ NoSuchChannel
IsKnowRefusal (Some ch) e = e ≡ NoMemory
