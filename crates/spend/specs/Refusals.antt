-- The refusals: their numbers, their names, and those of `filling`.
use Rattle.std.specs.Prelude.{ℕ, List, codes}
use Rattle.filling.specs.declared.errors.SpendError.{SpendError}
use Rattle.filling.specs.declared.errors.SpendError.TheVariants as spends
use Rattle.spend.specs.declared.errors.PlanError.{PlanError}
use Rattle.spend.specs.declared.errors.PlanError.TheVariants.{NoMemory, NotJson, BadShape, BadClaim, FixedTransaction, SameOutpoint, MeasuredSignature, NoPreimage, ValueTooLarge, NothingLeft, Dust, BadDestination, TooHighFeerate, TooLowFeerate}

abbrev pub plan_error_number : PlanError → ℕ
plan_error_number NoMemory = 0
plan_error_number NotJson = 1
plan_error_number BadShape = 2
plan_error_number BadClaim = 3
plan_error_number FixedTransaction = 4
plan_error_number SameOutpoint = 5
plan_error_number MeasuredSignature = 6
plan_error_number NoPreimage = 7
plan_error_number ValueTooLarge = 8
plan_error_number NothingLeft = 9
plan_error_number Dust = 10
plan_error_number BadDestination = 13
plan_error_number TooHighFeerate = 14
plan_error_number TooLowFeerate = 15

abbrev pub plan_error_text : PlanError → List ℕ
plan_error_text NoMemory = codes "NoMemory"
plan_error_text NotJson = codes "NotJson"
plan_error_text BadShape = codes "BadShape"
plan_error_text BadClaim = codes "BadClaim"
plan_error_text FixedTransaction = codes "FixedTransaction"
plan_error_text SameOutpoint = codes "SameOutpoint"
plan_error_text MeasuredSignature = codes "MeasuredSignature"
plan_error_text NoPreimage = codes "NoPreimage"
plan_error_text ValueTooLarge = codes "ValueTooLarge"
plan_error_text NothingLeft = codes "NothingLeft"
plan_error_text Dust = codes "Dust"
plan_error_text BadDestination = codes "BadDestination"
plan_error_text TooHighFeerate = codes "TooHighFeerate"
plan_error_text TooLowFeerate = codes "TooLowFeerate"

-- a refusal of the unsigned spend. Where it would pay more than it spends, nothing is left
abbrev pub plan_error : SpendError → PlanError
plan_error spends.NoMemory = NoMemory
plan_error spends.FixedTransaction = FixedTransaction
plan_error spends.SameOutpoint = SameOutpoint
plan_error spends.OutputsExceed = NothingLeft
plan_error spends.MeasuredSignature = MeasuredSignature
plan_error spends.NoPreimage = NoPreimage
