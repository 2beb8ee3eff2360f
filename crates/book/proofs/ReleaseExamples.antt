-- A history that releases a claim, for which the premises of the law on releases hold.
use Rattle.std.proofs.Common.{◌≡◌, ℕ, true, List, [], ◌∷◌, replicate, refl, lit≤, lit<, Contains, None, Ok}
use Rattle.std.specs.Prelude.{IsTrue, is_ok}
use Rattle.std.proofs.lemmas.List.Elements.{All-nil, All-cons}
use Rattle.sha2.specs.Sha256.{sha256, digest_bytes, hash_after, compress, rounds, schedule, first_words}
use Rattle.script.specs.declared.opcode.Op.{Op}
use Rattle.script.specs.declared.opcode.Op.TheVariants.{Number}
use Rattle.script.specs.Spelling.{IsOp}
use Rattle.script.specs.Token.{is_key}
use Rattle.tx.specs.declared.input.OutPoint.{OutPoint}
use Rattle.sighash.specs.Programs.{script_hash_program}
use Rattle.paths.specs.declared.state.Path.{Path}
use Rattle.paths.specs.Rules.{rule_of, check_multi_sig}
use Rattle.paths.specs.Listing.{listing}
use Rattle.terms.specs.declared.sides.Side.TheVariants.{A}
use Rattle.terms.specs.declared.agreement.BaseKeys.{BaseKeys}
use Rattle.terms.specs.declared.agreement.Terms.{Terms}
use Rattle.terms.specs.Bases.{IsSeedOf}
use Rattle.claim.specs.declared.parts.Place.{Place}
use Rattle.claim.specs.declared.parts.Shell.TheVariants.{Open}
use Rattle.claim.specs.Judgement.{judgement_of}
use Rattle.claim.specs.Claims.{ClaimParts, IsWhole}
use Rattle.filling.specs.Filled.{AllFit}
use Rattle.book.specs.declared.calls.Opening.{Opening}
use Rattle.book.specs.declared.calls.Batch.{Batch}
use Rattle.book.specs.declared.calls.Call.{Call}
use Rattle.book.specs.declared.calls.Call.TheVariants.{Open as Opened, Release}
use Rattle.book.specs.declared.calls.Entry.{Entry}
use Rattle.book.specs.Signers.{fill_refusal}
use Rattle.book.specs.Accepted.{all_accepted, AreWhole}
use Rattle.book.specs.Calling.{filling_by}
use Rattle.book.specs.Releasing.{ReleasesFit}
use Rattle.channel.proofs.Samples.{key, point_key, tokens_of}

-- the script OP_1, which anyone can spend, with its one path; the hash of its byte was computed elsewhere
abbrev ops : List Op
ops = Number 1 ∷ []

abbrev hash : List ℕ
hash = 0x4a ∷ 0xe8 ∷ 0x15 ∷ 0x72 ∷ 0xf0 ∷ 0x6e ∷ 0x1b ∷ 0x88 ∷ 0xfd ∷ 0x5c ∷ 0xed ∷ 0x7a ∷ 0x1a ∷ 0x00 ∷ 0x09 ∷ 0x45 ∷ 0x43 ∷ 0x2e ∷ 0x83 ∷ 0xe1 ∷ 0x55 ∷ 0x1e ∷ 0x6f ∷ 0x72 ∷ 0x1e ∷ 0xe9 ∷ 0xc0 ∷ 0x0b ∷ 0x8c ∷ 0xc3 ∷ 0x32 ∷ 0x60 ∷ []

abbrev path : Path
path = record { arity = 0; facts = []; ops = 0; height = 1; lock = None; age = None }

abbrev outpoint : OutPoint
outpoint = record { txid = replicate 32 6; index = 0 }

abbrev place : Place
place = record { outpoint = outpoint; value = 1000; program = 0x00 ∷ 0x20 ∷ hash }

abbrev claim : ClaimParts
claim = record { ways = record { ops = ops; paths = path ∷ [] }; index = 0; slots = []; place = place; shell = Open }

listed : listing ops ≡ Ok (path ∷ [])
unfolding listing rule_of check_multi_sig is_key
listed = refl

judged : IsTrue (is_ok (judgement_of claim.ways claim.index claim.slots claim.place claim.shell))
unfolding judgement_of script_hash_program sha256 digest_bytes hash_after compress rounds schedule first_words
judged = refl

whole : IsWhole claim
whole = record { ops = All-cons IsOp (Number 1) [] (lit≤ tt, lit≤ tt) (All-nil IsOp); short = lit≤ tt; listed = listed; accepted = judged; bare = refl }

abbrev batch : Batch
batch = record { claims = claim ∷ []; outputs = record { value = 900; script = [] } ∷ []; preimages = []; some = lit≤ tt; inputs = lit≤ tt; given = lit≤ tt }

-- its transaction, whose witness is the script alone
filled : (filling_by batch).tx
    ≡ record { version = 2; inputs = record { outpoint = outpoint; sequence = 0; witness = (0x51 ∷ []) ∷ [] } ∷ []; outputs = record { value = 900; script = [] } ∷ []; lock_time = 0 }
filled = refl

module _ (bases : BaseKeys) (seed : List ℕ) (own : IsSeedOf seed bases) where
  abbrev terms : Terms
  terms = record {
    funding = record { txid = replicate 32 5; index = 0 };
    capacity_sat = 100000;
    opener = A;
    feerate_per_kw = 1000;
    a = record { dust_sat = 546; delay_blocks = 144; minimum_msat = 1000; start_msat = 80000000; bases = bases };
    b = record { dust_sat = 546; delay_blocks = 144; minimum_msat = 1000; start_msat = 20000000; bases = bases };
    limited = lit≤ tt;
    whole = refl;
    short_a = lit< tt;
    short_b = lit< tt;
  }

  abbrev opening : Opening
  opening = record { terms = terms; side = A; seed = seed; first_point = point_key; next_point = key 1; token = 0 ∷ []; own = own }

  abbrev entry : Call → Entry
  entry call = record { seat = 0; call = call }

  -- a channel is opened, and the claim is released in it
  abbrev history : List Entry
  history = entry (Opened opening) ∷ entry (Release 0 batch) ∷ []

  accepted : all_accepted tokens_of history ≡ true
  unfolding fill_refusal
  accepted = refl

  all_whole : AreWhole history
  all_whole = (tt, ((whole, tt), tt))

  there : Contains history (entry (Release 0 batch))
  there = (1, lit< tt, refl)

  -- so by the law the input fits the claim
  fits : ReleasesFit → AllFit (filling_by batch).tx (claim ∷ []) (filling_by batch).tx.inputs
  fits law = law tokens_of history 0 0 batch accepted all_whole there
