use Rattle.std.proofs.Common.{map, subst, sym}
use Rattle.std.specs.List.{AllByRecursion}
use Rattle.edit_units.specs.Views.{unit_reading_of}
use Rattle.edit_versions.proofs.BlockFacts.{each_cut}
use Rattle.edit_versions.specs.Blocks.{IsUnitCut}
use Rattle.edit_versions.proofs.version.Version.of_units.Goals as goal

pub unit_names-requires : goal.unit_names-requires
unit_names-requires c =
    subst (λ items. AllByRecursion (IsUnitCut c.args.text.now) (map unit_reading_of items)) (sym c.deref-2.ensures.value)
    (each_cut c.args.text.now (map unit_reading_of c.args.units.items) c.requires)
