use Rattle.std.proofs.Common.{◌∙◌, subst, sym}
use Rattle.std.specs.String.{string_bytes}
use Rattle.bib_syntax.specs.Grammar.{IsFile}
use Rattle.edit_merge.proofs.EntryFacts.{none_found, some_found}
use Rattle.edit_merge.specs.Entries.{HasMergedEntries}
use Rattle.edit_merge.specs.Picked.{Versions}
use Rattle.edit_merge.specs.Views.{versions_of}
use Rattle.edit_merge.specs.declared.entries.Side.TheVariants.{Ours, Theirs}
use Rattle.bibkit_versions.specs.Merging.AreMergedBy.{by_fields}
use Rattle.bibkit_versions.proofs.merging.output_by_fields.Goals as goal

pub returns-in_default : goal.returns-in_default
returns-in_default c changed =
    record {
      side = Ours;
      text = string_bytes c.in_ok-our_text.our_text;
      merged = c.in_ok-our_text.ensures;
      refused = subst (λ t. IsFile t → ⊥) c.deref.ensures (none_found _ c.in_default.is c.in_ok-ours.ensures);
    }

pub returns-in_default-2 : goal.returns-in_default-2
returns-in_default-2 c changed =
    record {
      side = Theirs;
      text = string_bytes c.in_ok-their_text.their_text;
      merged = c.in_ok-their_text.ensures;
      refused = subst (λ t. IsFile t → ⊥) c.deref-2.ensures (none_found _ c.in_default-2.is c.in_ok-theirs.ensures);
    }

pub returns : goal.returns
returns c changed =
    let vs : Versions = versions_of c.args.versions in
    let ours = some_found _ _ c.in-Some.is c.in_ok-ours.ensures in
    let theirs = some_found _ _ c.in-Some-2.is c.in_ok-theirs.ensures in
    record {
      merged = record { base = vs.base; ours = c.in-Some.ours; theirs = c.in-Some-2.theirs };
      are =
          by_fields changed (subst (HasMergedEntries Ours vs) (sym (ours.0 ∙ c.deref.ensures)) c.in_ok-our_text.ensures) ours.1
          (subst (HasMergedEntries Theirs vs) (sym (theirs.0 ∙ c.deref-2.ensures)) c.in_ok-their_text.ensures) theirs.1;
      is = c.in_ok-output.ensures.text;
      has = c.in_ok-output.ensures.conflict;
    }
