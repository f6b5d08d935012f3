use Rattle.std.proofs.Common.{List, ℕ, [], ◌∷◌, sym, subst}
use Rattle.bib_syntax.specs.Views.{entry_reading_of}
use Rattle.edit_entries.specs.Edits.{Edit}
use Rattle.edit_entries.specs.Selected.{AreRemovals}
use Rattle.edit_entries.proofs.removing.entry_removal.Goals as goal

pub returns : goal.returns
returns c =
    let build : List ℕ → Edit =
    λ (bytes : List ℕ). record { start = c.args.entry.now.span.start; end = c.after_entry.result; bytes = bytes } in
    subst (λ bytes. AreRemovals c.args.text.now (entry_reading_of c.args.entry.now ∷ []) (build bytes ∷ [])) (sym c.new.ensures.bytes)
    (AreRemovals.next c.after_entry.ensures.white AreRemovals.none)
