use Rattle.std.proofs.Common.{◌∙◌, ap, sym, ◌++◌, ◌∷◌, [], arith, map}
use Rattle.std.specs.List.{range_with_len}
use Rattle.std.proofs.lemmas.List.FromFn.{map-range_with_len_more}
use Rattle.bib_recode.specs.Units.{unit_at}
use Rattle.bib_recode.proofs.utf16.units_of.Goals as goal

pub indices-preserved : goal.indices-preserved
indices-preserved c =
    c.in_ok-push.ensures.items ∙ ap (λ us. us ++ c.unit.result ∷ []) c.indices.invariant
    ∙ ap (λ u. map (unit_at c.args.is_big_endian c.args.bytes.now) (range_with_len 0 c.indices.index) ++ u ∷ []) c.unit.ensures
    ∙ sym (map-range_with_len_more (unit_at c.args.is_big_endian c.args.bytes.now) 0 c.indices.index c.indices.index (omega arith))
