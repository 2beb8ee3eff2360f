-- What is answered of an unrevoked commitment.
use Rattle.std.specs.Prelude.{◌≡◌, ℕ, map, Option}
use Rattle.tx.specs.Fields.{Transaction}
use Rattle.commit.specs.Keys.{bytes_of}
use Rattle.penalty.specs.Sets.{AreClaimsOn}
use Rattle.unilateral.specs.declared.closes.Close.{Close}
use Rattle.unilateral.specs.declared.names.FundingKeys.{FundingKeys}
use Rattle.unilateral.specs.Names.{name_at}
use Rattle.unilateral.specs.Reading.{claimed_in, others_in}
use Rattle.spend.specs.declared.close_requests.CloseRequest.{CloseRequest}
use Rattle.spend.specs.declared.close_answers.CloseAnswer.{CloseAnswer}

-- the commitment that a request has
abbrev pub close_of : CloseRequest → Close
close_of r = record {
  commitment = record { channel_type = r.commitment.channel_type; keys = bytes_of r.commitment.keys; delay_blocks = r.commitment.delay_blocks; htlcs = r.htlcs };
  whose = r.whose;
  feerate_per_kw = r.feerate_per_kw;
  preimages = r.preimages;
}

-- what is found of a commitment in a transaction: a claim on each output of it that one can claim, and the indices and the names of the others
pub record IsFoundIn (c : Close) (funding_keys : Option FundingKeys) (t : Transaction) (confirmed_height : Option ℕ) (a : CloseAnswer) : Type 0 where
  pub close : a.close ≡ c
  pub claims : AreClaimsOn (claimed_in c t) a.found.claims
  pub others : a.found.others ≡ others_in c t
  pub names : a.names ≡ map (name_at c.commitment funding_keys t) (others_in c t)
  pub height : a.confirmed_height ≡ confirmed_height

abbrev pub IsCloseAnswer : CloseRequest → CloseAnswer → Type 0
IsCloseAnswer r = IsFoundIn (close_of r) r.commitment.funding_keys r.transaction r.confirmed_height
