-- The arguments after the program's name.
use Rattle.std.proofs.Common.{◌≡◌, ◌∙◌, List, Result, Ok, Err, map, drop, ap, sym}
use Rattle.std.specs.Prelude.{IfOk, string_bytes}
use Rattle.std.specs.List.{drop-map}
use Rattle.std.specs.declared.string.String.{String}
use Rattle.std.specs.declared.vec.Vec.{Vec}

-- the collected arguments are the texts after the first
pub words_collected : {A B E : Type 0} (r : Result (Vec (String A) B) E) (all : List (String A))
    → IfOk r (λ words. words.items ≡ drop 1 all)
    → IfOk r (λ words. map string_bytes words.items ≡ drop 1 (map string_bytes all))
words_collected (Ok words) all is = ap (map string_bytes) is ∙ sym (drop-map string_bytes 1 all)
words_collected (Err e) all is = tt
