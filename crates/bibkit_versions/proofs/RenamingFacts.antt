-- The versions of a merge after the renames.
use Rattle.std.proofs.Common.{◌≡◌, Bool, Err, IfOk, ℕ, List, Ok, Option, Result, Some, None, subst}
use Rattle.edit_entry_merge.specs.ConflictTexts.{MarkerLines}
use Rattle.edit_merge.specs.Picked.{Versions}
use Rattle.edit_units.specs.Units.{AreUnits}
use Rattle.edit_versions.specs.Versions.{VersionReading}
use Rattle.bibkit_versions.specs.Merging.{AreRenamedBy, IsMergeByFields, IsMergedFile, IsNewVersion, IsRefusedText}
use Rattle.bibkit_versions.specs.NewVersions.{IsVersionOf, version_or}
use Rattle.bibkit_versions.specs.declared.renaming.NewVersion.{NewVersion}
use Rattle.bibkit_versions.specs.declared.renaming.NewVersion.TheVariants.{Old, New, Refused}

-- if there is neither a new version nor an old one, the new text isn't that of a file
pub no_file : (text : Option (List ℕ)) (v : NewVersion) (old : VersionReading) → IsVersionOf text v → version_or v old ≡ None
    → IsRefusedText text
no_file None Old old is none = absurd (cc)
no_file None (New v) old is none = absurd is
no_file None Refused old is none = absurd is
no_file (Some text) Old old is none = absurd is
no_file (Some text) (New v) old is none = absurd (cc)
no_file (Some text) Refused old is none = is

-- otherwise it is the version of the new text, or the old one
pub new_version_is : (text : Option (List ℕ)) (v : NewVersion) (old w : VersionReading) → IsVersionOf text v → version_or v old ≡ Some w
    → IsNewVersion text old w
new_version_is None Old old w is some = let same : w ≡ old = cc in same
new_version_is None (New v) old w is some = absurd is
new_version_is None Refused old w is some = absurd is
new_version_is (Some text) Old old w is some = absurd is
new_version_is (Some text) (New v) old w is some =
    let same : v ≡ w = cc in subst (λ x. (x.text ≡ text) × AreUnits x.text x.units) same is
new_version_is (Some text) Refused old w is some = absurd (cc)

-- the output for versions after the renames is that of a merge
pub is_merged_file : {T E : Type 0} (r : Result T E) (text_of : T → List ℕ) (conflicts_of : T → Bool) (markers : MarkerLines)
    (vs renamed : Versions) → AreRenamedBy vs renamed → IfOk r (λ o. IsMergeByFields markers renamed (text_of o) (conflicts_of o))
    → IfOk r (λ o. IsMergedFile markers vs (text_of o) (conflicts_of o))
is_merged_file (Ok o) text_of conflicts_of markers vs new are merge = record { renamed = new; are = are; merge = merge }
is_merged_file (Err e) text_of conflicts_of markers vs new are merge = tt
