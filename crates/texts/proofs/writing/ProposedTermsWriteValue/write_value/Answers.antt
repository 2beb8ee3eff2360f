use Rattle.texts.proofs.Returning.{terms_again}
use Rattle.texts.proofs.writing.ProposedTermsWriteValue.write_value.Goals as goal

pub returns-clause-back : goal.returns-clause-back
returns-clause-back c = terms_again c.args.self.now c.in_ok-member-2.ensures.back c.in_ok-member-4.ensures.back c.in_ok-member-6.ensures.back
