use Rattle.expectations.proofs.ReadBack.{read_back}
use Rattle.expectations.proofs.laws.texts_read_back.Goals as goal

pub returns : goal.returns
returns c = read_back c.names_lead_back.ensures.errors c.names_lead_back.ensures.kinds
