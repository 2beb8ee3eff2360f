-- Tables of numbers, each value stated once more. 0 stands for out of memory: the same call may be made again.
use Rattle.std.proofs.Common.{◌≡◌, [], ◌∷◌, map, refl}
use Rattle.script.specs.declared.stops.Kind.TheVariants.{Verify}
use Rattle.script.specs.declared.stops.Cause.TheVariants as causes
use Rattle.secrets.specs.declared.errors.StoreError.TheVariants.{OutOfTurn, NotOfThisSeed}
use Rattle.secrets.specs.Refusals.{refusal_number as secrets_number}
use Rattle.keys.specs.declared.bases.Base.TheVariants.{Funding, Payment, Delayed, Htlc, Revocation}
use Rattle.keys.specs.Derivation.{number_of as base_number}
use Rattle.machine.specs.declared.ends.Stop.TheVariants.{NoMemory as NoMemoryToRun, At}
use Rattle.machine.specs.Refusals.{refusal_number as machine_number}
use Rattle.terms.specs.declared.errors.TermsError.TheVariants.{BadTerms}
use Rattle.terms.specs.Refusals.{refusal_number as terms_number}
use Rattle.chain.specs.declared.errors.ChainError.TheVariants.{NoMemory as NoMemoryForChain, Spent, Unknown, NotFinal, TooYoung, Script, BadProgram, OutputsExceed, Twice, TooDeep}
use Rattle.chain.specs.Refusals.{number_of as chain_number}
use Rattle.paths.specs.declared.errors.CheckError.TheVariants.{NoMemory as NoMemoryToCheck, OpenBranch, TooManyOps, Undecided, TooManyPaths, TooTall}
use Rattle.paths.specs.declared.pieces.PatternError.TheVariants.{Check, TooLong, BadOpcode}
use Rattle.paths.specs.declared.pieces.InstanceError.TheVariants.{NoMemory as NoMemoryToFill, WrongHoles}
use Rattle.paths.specs.PatternRefusals.{pattern_refusal_number, instance_refusal_number}
use Rattle.penalty.specs.declared.errors.StateError.TheVariants.{TooManyHtlcs, ExpiryTooLarge, WrongTotal}
use Rattle.penalty.specs.States.{refusal_number as penalty_number}
use Rattle.texts.specs.declared.errors.ShapeError.TheVariants.{NoMemory as NoMemoryToRead, BadShape}
use Rattle.texts.specs.Refusals.{refusal_number as texts_number}

-- which of a seed's secrets is whose
of_bases : map base_number (Funding ∷ Payment ∷ Delayed ∷ Htlc ∷ Revocation ∷ []) ≡ 0 ∷ 1 ∷ 2 ∷ 3 ∷ 4 ∷ []
of_bases = refl

-- a store, terms and a state allocate nothing
of_secrets : map secrets_number (OutOfTurn ∷ NotOfThisSeed ∷ []) ≡ 1 ∷ 2 ∷ []
of_secrets = refl

of_terms : terms_number BadTerms ≡ 1
of_terms = refl

of_states : map penalty_number (TooManyHtlcs ∷ ExpiryTooLarge ∷ WrongTotal ∷ []) ≡ 1 ∷ 2 ∷ 3 ∷ []
of_states = refl

-- a stop has its cause's number, at any opcode
of_stops : map machine_number (NoMemoryToRun ∷ At causes.MissingOperand 9 ∷ At (causes.FailedCheck Verify) 8 ∷ At causes.OpenBranch 7 ∷ At causes.TooManyOps 6 ∷ At causes.StackTooTall 4 ∷ At causes.ItemTooLong 0 ∷ At causes.NotOneValue 2 ∷ At causes.FalseEnd 1 ∷ []) ≡ 0 ∷ 1 ∷ 2 ∷ 3 ∷ 4 ∷ 5 ∷ 6 ∷ 7 ∷ 8 ∷ []
of_stops = refl

of_chains : map chain_number (NoMemoryForChain ∷ Spent ∷ Unknown ∷ NotFinal ∷ TooYoung ∷ Script causes.OpenBranch 7 ∷ BadProgram ∷ OutputsExceed ∷ Twice ∷ TooDeep ∷ []) ≡ 0 ∷ 1 ∷ 2 ∷ 3 ∷ 4 ∷ 5 ∷ 6 ∷ 7 ∷ 8 ∷ 9 ∷ []
of_chains = refl

-- a pattern's check has the numbers of a script's
of_patterns : map pattern_refusal_number (Check NoMemoryToCheck ∷ Check OpenBranch ∷ Check TooManyOps ∷ Check (Undecided 9) ∷ Check TooManyPaths ∷ Check TooTall ∷ TooLong ∷ BadOpcode ∷ []) ≡ 0 ∷ 1 ∷ 2 ∷ 3 ∷ 4 ∷ 5 ∷ 6 ∷ 7 ∷ []
of_patterns = refl

of_instances : map instance_refusal_number (NoMemoryToFill ∷ WrongHoles ∷ []) ≡ 0 ∷ 1 ∷ []
of_instances = refl

-- 1 is NotJson, which the readers of texts answer
of_shapes : map texts_number (NoMemoryToRead ∷ BadShape ∷ []) ≡ 0 ∷ 2 ∷ []
of_shapes = refl
