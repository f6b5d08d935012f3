-- Facts that depend on the result of a call.
use Rattle.std.proofs.Common.{◌≡◌, ◌⊎◌, inl, inr, ℕ, ◌+◌, ◌-◌, ◌^◌, min, List, None, Some, Result, Ok, Err, OnOk, OnErr, IfErr, ◌∙◌, arith}
use Rattle.bibkit_core.specs.Folder.{Disk, IsCounted}
use Rattle.bibkit_core.specs.Replaced.{IsAfterError, AreTwoFailed}
use Rattle.bibkit_core.specs.ReplaceSteps.{IsExchangeError}
use Rattle.bibkit_core.specs.declared.replacing.ReplaceError.{ReplaceError}
use Rattle.bibkit_core.specs.declared.replacing.ReplaceError.TheVariants.{OutOfMemory, NamesTaken, NotReplaced, Unsure, Unsettled}

-- if `A` implies `B`, and `A` holds if the call succeeded, then `B` holds if it succeeded
pub on_ok_by : {T E : Type 0} (result : Result T E) (A B : Type 0) → (A → B) → OnOk result A → OnOk result B
on_ok_by (Ok v) A B gives a = gives a
on_ok_by (Err e) A B gives a = tt

-- if `A` and `B` imply `C`, and both hold if the call succeeded, then `C` holds if it succeeded
pub on_ok : {T E : Type 0} (result : Result T E) (A B C : Type 0) → (A → B → C) → OnOk result A → OnOk result B → OnOk result C
on_ok (Ok v) A B C gives a b = gives a b
on_ok (Err e) A B C gives a b = tt

-- if `A` implies `B`, and `A` holds if the call failed, then `B` holds if it failed
pub on_err_by : {T E : Type 0} (result : Result T E) (A B : Type 0) → (A → B) → OnErr result A → OnErr result B
on_err_by (Ok v) A B gives a = tt
on_err_by (Err e) A B gives a = gives a

-- after a failed call, the removal of the new file succeeded, or two calls have failed
pub removed_or_two : {T E : Type 0} (result : Result T E) (gone : Type 0) (first mid last : ℕ)
    → mid ≡ min (first + 1) (2 ^ 64 - 1) → OnOk result gone → IsCounted mid last result → gone ⊎ AreTwoFailed first last
removed_or_two (Ok v) gone first mid last once done counted = inl done
removed_or_two (Err e) gone first mid last once done counted = inr (omega (arith, once, counted))

-- after an error of the rename or the sync of the folder, the target has the contents that `IsAfterError` states
pub after_exchange : {T : Type 0} (result : Result T ReplaceError) (name target text : List ℕ)
    (failures_mid failures_new : ℕ) (old mid new : Disk)
    →
    ((new.holds target ≡ mid.holds target) ⊎ (new.holds target ≡ mid.holds name)
    → (new.holds target ≡ old.holds target) ⊎ (new.holds target ≡ Some text))
    → mid.holds name ≡ Some text → IfErr result (IsExchangeError name target failures_mid failures_new mid new)
    → IfErr result (IsAfterError target text old new)
after_exchange (Ok v) name target text failures_mid failures_new old mid new either full failed = tt
after_exchange (Err OutOfMemory) name target text failures_mid failures_new old mid new either full failed = absurd failed
after_exchange (Err NamesTaken) name target text failures_mid failures_new old mid new either full failed = absurd failed
after_exchange (Err (NotReplaced e)) name target text failures_mid failures_new old mid new either full failed = absurd failed
after_exchange (Err (Unsure e)) name target text failures_mid failures_new old mid new either full failed = either failed.either
after_exchange (Err (Unsettled e)) name target text failures_mid failures_new old mid new either full failed = failed.moved ∙ full

-- after an error of the rename or the sync of the folder, the name of the new file has no file, or two calls have failed
pub gone_or_two : {T : Type 0} (result : Result T ReplaceError) (name target : List ℕ) (failures_mid failures_new : ℕ) (mid new : Disk)
    → IfErr result (IsExchangeError name target failures_mid failures_new mid new)
    → OnErr result ((new.holds name ≡ None) ⊎ AreTwoFailed failures_mid failures_new)
gone_or_two (Ok v) name target failures_mid failures_new mid new failed = tt
gone_or_two (Err OutOfMemory) name target failures_mid failures_new mid new failed = absurd failed
gone_or_two (Err NamesTaken) name target failures_mid failures_new mid new failed = absurd failed
gone_or_two (Err (NotReplaced e)) name target failures_mid failures_new mid new failed = absurd failed
gone_or_two (Err (Unsure e)) name target failures_mid failures_new mid new failed = failed.gone
gone_or_two (Err (Unsettled e)) name target failures_mid failures_new mid new failed = inl failed.gone
