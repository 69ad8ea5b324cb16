-- `pdu::service_of` meets its contract: a code of a row names its service.
use Rattle.octets.proofs.Kit.{arith}
use Rattle.pdu.proofs.Find.{named_by}
use Rattle.pdu.proofs.service_of.Goals as goal

pub returns-in-0 : goal.returns-in-0
returns-in-0 c = named_by _ _ (omega arith) (omega arith)

pub returns-in-192 : goal.returns-in-192
returns-in-192 c = named_by _ _ (omega arith) (omega arith)

pub returns-in-256 : goal.returns-in-256
returns-in-256 c = named_by _ _ (omega arith) (omega arith)

pub returns-in-320 : goal.returns-in-320
returns-in-320 c = named_by _ _ (omega arith) (omega arith)

pub returns-in-704 : goal.returns-in-704
returns-in-704 c = named_by _ _ (omega arith) (omega arith)

pub returns-in-705 : goal.returns-in-705
returns-in-705 c = named_by _ _ (omega arith) (omega arith)

pub returns-in-706 : goal.returns-in-706
returns-in-706 c = named_by _ _ (omega arith) (omega arith)

pub returns-in-896 : goal.returns-in-896
returns-in-896 c = named_by _ _ (omega arith) (omega arith)

pub returns-in-976 : goal.returns-in-976
returns-in-976 c = named_by _ _ (omega arith) (omega arith)

pub returns-in-977 : goal.returns-in-977
returns-in-977 c = named_by _ _ (omega arith) (omega arith)

pub returns-in-978 : goal.returns-in-978
returns-in-978 c = named_by _ _ (omega arith) (omega arith)

pub returns-in-979 : goal.returns-in-979
returns-in-979 c = named_by _ _ (omega arith) (omega arith)

pub returns-in-980 : goal.returns-in-980
returns-in-980 c = named_by _ _ (omega arith) (omega arith)

pub returns-in-981 : goal.returns-in-981
returns-in-981 c = named_by _ _ (omega arith) (omega arith)

pub returns-in-982 : goal.returns-in-982
returns-in-982 c = named_by _ _ (omega arith) (omega arith)

pub returns-in-983 : goal.returns-in-983
returns-in-983 c = named_by _ _ (omega arith) (omega arith)

pub returns-in-984 : goal.returns-in-984
returns-in-984 c = named_by _ _ (omega arith) (omega arith)

pub returns-in-985 : goal.returns-in-985
returns-in-985 c = named_by _ _ (omega arith) (omega arith)

pub returns-in-988 : goal.returns-in-988
returns-in-988 c = named_by _ _ (omega arith) (omega arith)

pub returns-in-989 : goal.returns-in-989
returns-in-989 c = named_by _ _ (omega arith) (omega arith)

pub returns-in-990 : goal.returns-in-990
returns-in-990 c = named_by _ _ (omega arith) (omega arith)

pub returns-in-64-to-127 : goal.returns-in-64-to-127
returns-in-64-to-127 c = named_by _ _ (omega arith) (omega arith)

pub returns-in-128-to-191 : goal.returns-in-128-to-191
returns-in-128-to-191 c = named_by _ _ (omega arith) (omega arith)

pub returns-in-512-to-527 : goal.returns-in-512-to-527
returns-in-512-to-527 c = named_by _ _ (omega arith) (omega arith)

pub returns-in-576-to-591 : goal.returns-in-576-to-591
returns-in-576-to-591 c = named_by _ _ (omega arith) (omega arith)

pub returns-in-640-to-655 : goal.returns-in-640-to-655
returns-in-640-to-655 c = named_by _ _ (omega arith) (omega arith)

pub returns-in-768-to-831 : goal.returns-in-768-to-831
returns-in-768-to-831 c = named_by _ _ (omega arith) (omega arith)

pub returns-in-832-to-895 : goal.returns-in-832-to-895
returns-in-832-to-895 c = named_by _ _ (omega arith) (omega arith)
