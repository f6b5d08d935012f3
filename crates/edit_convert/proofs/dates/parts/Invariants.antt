use Rattle.std.proofs.Common.{◌≡◌, map}
use Rattle.edit_strings.specs.Views.{lent_texts}
use Rattle.edit_convert.proofs.dates.parts.Given as goal

abbrev pub invariant-parts : goal.invariant-parts
invariant-parts l = lent_texts l.parts.items ≡ map (λ p. p.now) l.yielded
