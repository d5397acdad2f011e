use Rattle.vio_tag.proofs.Deciding.{some_result}
use Rattle.vio_tag.proofs.Reading.{never_both, one_result}
use Rattle.vio_tag.proofs.laws.bytes_decode_once.Goals as goal

pub returns-clause-one_result : goal.returns-clause-one_result
returns-clause-one_result c = one_result

pub returns-clause-never_both : goal.returns-clause-never_both
returns-clause-never_both c = never_both

pub returns-clause-some_result : goal.returns-clause-some_result
returns-clause-some_result c = some_result
