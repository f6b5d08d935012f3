-- Lists that are appended one after another.
use Rattle.std.proofs.Common.{◌≡◌, List, ◌++◌, Result, Ok, Err, ap, ◌∙◌, append_assoc}
use Rattle.std.specs.Prelude.{OnOk}

-- appending `x` and then `y` appends their concatenation
pub after : {A T E : Type 0} (r : Result T E) (a b c x y : List A) → b ≡ a ++ x → OnOk r (c ≡ b ++ y) → OnOk r (c ≡ a ++ (x ++ y))
after (Ok t) a b c x y first last = last ∙ ap (λ l. l ++ y) first ∙ append_assoc a x y
after (Err e) a b c x y first last = last
