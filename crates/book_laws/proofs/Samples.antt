-- Two channels of a node, their openings, and a claim on a script that no channel has, for the worked histories.
use Rattle.std.proofs.Common.{◌≡◌, ℕ, true, List, [], ◌∷◌, replicate, None, refl, lit≤, lit<}
use Rattle.std.specs.Str.{bytes_eq}
use Rattle.std.proofs.lemmas.Slice.Eq.{bytes_eq-Decides}
use Rattle.script.specs.declared.opcode.Op.TheVariants.{Number}
use Rattle.tx.specs.Parts.{Output}
use Rattle.paths.specs.declared.state.Path.{Path}
use Rattle.terms.specs.declared.htlcs.Htlc.{Htlc}
use Rattle.terms.specs.declared.sides.Side.TheVariants.{A, B}
use Rattle.terms.specs.declared.agreement.BaseKeys.{BaseKeys}
use Rattle.terms.specs.declared.agreement.Party.{Party}
use Rattle.terms.specs.declared.agreement.Terms.{Terms}
use Rattle.terms.specs.Bases.{IsSeedOf}
use Rattle.claim.specs.declared.parts.Place.{Place}
use Rattle.claim.specs.declared.parts.Shell.TheVariants.{Open}
use Rattle.claim.specs.Claims.{ClaimParts}
use Rattle.channel.specs.Points.{point_at}
use Rattle.channel.specs.States.{first_of}
use Rattle.channel.specs.Tokens.{peer_tokens}
use Rattle.channel.proofs.Samples.{key, point_key}
use Rattle.safety.specs.Holdings.{Release}
use Rattle.book.specs.declared.calls.Batch.{Batch}
use Rattle.book.specs.declared.calls.Opening.{Opening}
use Rattle.book.specs.declared.calls.Call.{Call}
use Rattle.book.specs.declared.calls.Entry.{Entry}

abbrev pub entry : ℕ → Call → Entry
entry seat call = record { seat = seat; call = call }

abbrev pub hash : List ℕ
hash = replicate 32 9

abbrev pub htlc : ℕ → ℕ → Htlc
htlc amount_msat expiry_height = record { id = 0; amount_msat = amount_msat; hash = hash; expiry_height = expiry_height }

abbrev pub side : ℕ → BaseKeys → Party
side start_msat bases = record { dust_sat = 546; delay_blocks = 144; minimum_msat = 1000; start_msat = start_msat; bases = bases }

-- ---- releases

-- a claim on the script OP_1; the hash of its byte was computed elsewhere
abbrev pub stray_hash : List ℕ
stray_hash = 0x4a ∷ 0xe8 ∷ 0x15 ∷ 0x72 ∷ 0xf0 ∷ 0x6e ∷ 0x1b ∷ 0x88 ∷ 0xfd ∷ 0x5c ∷ 0xed ∷ 0x7a ∷ 0x1a ∷ 0x00 ∷ 0x09 ∷ 0x45 ∷ 0x43 ∷ 0x2e ∷ 0x83 ∷ 0xe1 ∷ 0x55 ∷ 0x1e ∷ 0x6f ∷ 0x72 ∷ 0x1e ∷ 0xe9 ∷ 0xc0 ∷ 0x0b ∷ 0x8c ∷ 0xc3 ∷ 0x32 ∷ 0x60 ∷ []

abbrev pub path : Path
path = record { arity = 0; facts = []; ops = 0; height = 1; lock = None; age = None }

abbrev pub place : Place
place = record { outpoint = record { txid = replicate 32 6; index = 0 }; value = 1000; program = 0x00 ∷ 0x20 ∷ stray_hash }

abbrev pub stray : ClaimParts
stray = record { ways = record { ops = Number 1 ∷ []; paths = path ∷ [] }; index = 0; slots = []; place = place; shell = Open }

abbrev pub pays : ℕ → List Output
pays value = record { value = value; script = [] } ∷ []

abbrev pub batch : ClaimParts → ℕ → Batch
batch x value = record { claims = x ∷ []; outputs = pays value; preimages = []; some = lit≤ tt; inputs = lit≤ tt; given = lit≤ tt }

abbrev pub release : ClaimParts → ℕ → Release
release x value = record { claims = x ∷ []; outputs = pays value }

-- ---- openings

-- the node is A in the first channel, and opened it; and B in the second, which it opened too
module _ (bases theirs : BaseKeys) (seed : List ℕ) (own : IsSeedOf seed bases) where
  abbrev pub first_terms : List ℕ → Terms
  first_terms txid = record { funding = record { txid = txid; index = 7 }; capacity_sat = 100000; opener = A; feerate_per_kw = 0; a = side 80000000 bases; b = side 20000000 theirs; limited = lit≤ tt; whole = refl; short_a = lit< tt; short_b = lit< tt }

  abbrev pub second_terms : Terms
  second_terms = record { funding = record { txid = replicate 32 6; index = 9 }; capacity_sat = 50000; opener = B; feerate_per_kw = 0; a = side 10000000 theirs; b = side 40000000 bases; limited = lit≤ tt; whole = refl; short_a = lit< tt; short_b = lit< tt }

  -- the peer's token on the node's commitment 0 in each
  abbrev pub first_token : List ℕ → List ℕ
  first_token txid = (peer_tokens (first_terms txid) (first_of (first_terms txid) A (point_at seed 0))).commitment

  abbrev pub second_token : List ℕ
  second_token = (peer_tokens second_terms (first_of second_terms B (point_at seed 0))).commitment

  pub first_signed : (txid : List ℕ) → bytes_eq (first_token txid) (first_token txid) ≡ true
  first_signed txid = (bytes_eq-Decides (first_token txid) (first_token txid)).1 refl

  pub second_signed : bytes_eq second_token second_token ≡ true
  second_signed = (bytes_eq-Decides second_token second_token).1 refl

  abbrev pub first_opening : List ℕ → Opening
  first_opening txid = record { terms = first_terms txid; side = A; seed = seed; first_point = point_key; next_point = key 1; token = first_token txid; own = own }

  abbrev pub second_opening : Opening
  second_opening = record { terms = second_terms; side = B; seed = seed; first_point = point_key; next_point = key 3; token = second_token; own = own }
