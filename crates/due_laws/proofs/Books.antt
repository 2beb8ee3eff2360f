-- What is due is in hand in a channel of which a history takes care.
use Rattle.std.proofs.Common.{◌≡◌, ℕ, List, length, Some, refl}
use Rattle.std.specs.Prelude.{slice_get}
use Rattle.std.specs.List.{AllByRecursion}
use Rattle.claim.specs.Claims.{ClaimParts}
use Rattle.penalty.specs.Sets.{claimed_by}
use Rattle.resolve.specs.declared.known.Known.{Known}
use Rattle.resolve.specs.Numbered.{AreNumbered}
use Rattle.channel.specs.Peers.{IsLived}
use Rattle.channel.specs.Learning.{SidesLearn}
use Rattle.channel.specs.Recording.{SidesNumber}
use Rattle.channel.specs.States.{Signing}
use Rattle.safety.specs.Holdings.{Holding}
use Rattle.safety.specs.Places.{KnownPlaces}
use Rattle.book.specs.declared.calls.Entry.{Entry}
use Rattle.book.specs.Books.{ChannelBook, is_kept, replay}
use Rattle.book.specs.Knowing.{IsKnownOf}
use Rattle.book.specs.Lived.{ChannelsAreLived, BasesAreOwn}
use Rattle.book_laws.specs.Holdings.{holding_of}
use Rattle.book_laws.specs.Keeping.{BooksKeepRules}
use Rattle.due_laws.specs.Knowing.{IsKnownTo}
use Rattle.due_laws.specs.Verdicts.{ClosersAreJudged}
use Rattle.due_laws.specs.Counting.{DuesAreCounted}
use Rattle.due_laws.specs.Filling.{OwnsBases, DuesAreFillable}
use Rattle.due_laws.specs.Passing.{FillingsPass}
use Rattle.due_laws.proofs.Recorded.{recorded}
use Rattle.due_laws.specs.Books.{BooksHaveDues, BookDuesAreRecorded}

-- ---- what is asked of a channel

told : (history : List Entry) (c : ℕ) (ch : ChannelBook) (preimages : List (List ℕ)) (known : Known) → IsKnownOf ch.state (is_kept ch.kept) preimages known → AreNumbered known.revoked
    → AllByRecursion (λ x. length x ≡ 32) known.preimages → IsKnownTo (holding_of history c ch) known
told history c ch preimages known is numbered long = record {
  kept = is_kept ch.kept;
  is = record {
    terms_are = is.terms_are;
    side_is = is.side_is;
    seed_is = is.seed_is;
    rights_are = is.rights_are;
    own_is = is.own_is;
    older_are = is.older_are;
    theirs_is = is.theirs_is;
    next_is = is.next_is;
    revoked_are = is.revoked_are;
    preimages_are = refl;
  };
  numbered = numbered;
  preimages = long;
}

pub books_have_dues : BasesAreOwn → BooksKeepRules → ClosersAreJudged → DuesAreCounted → DuesAreFillable → FillingsPass → BooksHaveDues
books_have_dues bases keep judged counted fillable pass history c ch careful preimages known is numbered long =
    let h : Holding = holding_of history c ch in
    let r = (keep history c ch careful).each.0 in
    let owns : OwnsBases h = bases history c ch careful.there in
    let w = told history c ch preimages known is numbered long in
    record { judged = judged h r known w; counted = counted h r known w; fillable = fillable h r owns known w; pass = pass h r owns known w }

-- ---- what is due is on what a recorded commitment gives

pub book_dues_are_recorded : ChannelsAreLived → SidesLearn → SidesNumber → KnownPlaces → BookDuesAreRecorded
book_dues_are_recorded lives learn numbers places tokens_of history called c ch there preimages known is numbered long x d =
    let h : Holding = holding_of history c ch in
    let lived : IsLived tokens_of ch.state = lives tokens_of history c ch called there in
    recorded h (numbers tokens_of ch.state lived) (learn tokens_of ch.state lived).each known (told history c ch preimages known is numbered long) x (places known d.verdict (claimed_by x) d.due)
