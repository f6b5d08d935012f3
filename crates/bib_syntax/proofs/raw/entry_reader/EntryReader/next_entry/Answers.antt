use Rattle.std.proofs.Common.{◌≡◌, ◌∙◌, ap, sym, subst, MatchOption}
use Rattle.bib_text.specs.Places.{place}
use Rattle.bib_syntax.specs.EntryReader.{HasNoEntry, IsNextEntry}
use Rattle.bib_syntax.specs.Views.{entry_reading_of}
use Rattle.bib_syntax.proofs.raw.entry_reader.EntryReader.next_entry.Goals as goal

pub returns-clause-found : goal.returns-clause-found
returns-clause-found c =
    let here : c.new-s.result ≡ c.args.self.now = c.new-s.ensures ∙ c.copy.ensures ∙ c.self.view_is in
    let text : c.self.inside.scanner.text ≡ c.next_entry.new.s.text =
    ap (λ p. p.text) (sym (c.new-s.ensures ∙ c.copy.ensures)) ∙ sym c.in_ok-entry.ensures.text in
    let there : c.jump.new.self ≡ c.next_entry.new.s =
    c.jump.ensures ∙ ap (λ t. place t c.cursor.result) text ∙ ap (place c.next_entry.new.s.text) c.cursor.ensures.place in
    subst (λ v. MatchOption c.in_ok-entry.entry (HasNoEntry c.args.self.now) (λ e. IsNextEntry c.args.self.now (entry_reading_of e) v))
    (sym there)
    (subst (λ u. MatchOption c.in_ok-entry.entry (HasNoEntry u) (λ e. IsNextEntry u (entry_reading_of e) c.next_entry.new.s)) here
    c.in_ok-entry.ensures.found)
