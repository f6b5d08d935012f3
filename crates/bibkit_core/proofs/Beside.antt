-- The name of a new file is longer than that of its target, so the two names differ.
use Rattle.std.proofs.Common.{◌≡◌, ◌≢◌, ℕ, ◌+◌, ◌++◌, List, length, codes, ap, arith, length-append}
use Rattle.std.specs.Fmt.{decimal}
use Rattle.bibkit_core.specs.Replaced.{new_name}

pub new_name-differs : (target : List ℕ) (number : ℕ) → new_name target number ≢ target
new_name-differs target number same =
    let longer : length (codes ".bibkit-" ++ decimal number) ≡ 8 + length (decimal number) =
    length-append (codes ".bibkit-") (decimal number) in
    omega (arith, ap length same, length-append target (codes ".bibkit-" ++ decimal number), longer)
