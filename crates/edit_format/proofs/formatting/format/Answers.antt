use Rattle.std.proofs.Common.{◌≡◌, Result, Ok, Err, ℕ, None, List, map, sym, ap, ◌∙◌, subst}
use Rattle.std.specs.Prelude.{IfOk}
use Rattle.std.specs.String.{string_bytes}
use Rattle.bib_syntax.specs.Grammar.{IsRawReading}
use Rattle.bib_syntax.specs.Reading.{EntryReading, FileReading}
use Rattle.bib_syntax.specs.Views.{entry_reading_of}
use Rattle.edit_entries.specs.Cuts.{AreEntriesCut}
use Rattle.edit_format.specs.Formatted.{IsReadAlike, line_end_of, rest_in_style, says_in_order, text_in_style}
use Rattle.edit_format.specs.declared.style.Style.{Style}
use Rattle.edit_entries.proofs.CutFacts.{document_cut}
use Rattle.edit_format.proofs.FileFacts.{text_read}
use Rattle.edit_format.proofs.formatting.format.Goals as goal

-- if the code returns the output for its line end and entries, this is the document's text in the style
formatted_is : {S E : Type 0} (bytes : S → List ℕ) (r : Result S E) (style : Style) (text text' line_end : List ℕ)
    (says : FileReading) (entries : List EntryReading) → text' ≡ text → line_end ≡ line_end_of text'
    → entries ≡ says.entries
    → IfOk r (λ new. bytes new ≡ rest_in_style line_end style None text' 0 entries)
    → IfOk r (λ new. bytes new ≡ text_in_style style text says)
formatted_is bytes (Err error) style text text' line_end says entries same ends listed all = _
formatted_is bytes (Ok new) style text text' line_end says entries same ends listed all =
    all ∙ ap (λ e. rest_in_style e style None text' 0 entries) ends
    ∙ ap (rest_in_style (line_end_of text') style None text' 0) listed ∙ ap (λ t. text_in_style style t says) same

pub with_entries-requires : goal.with_entries-requires
with_entries-requires c =
    let says = c.args.document.now.says in
    let entries : map entry_reading_of c.deref.result.now ≡ says.entries =
    ap (map entry_reading_of) c.deref.ensures.value ∙ ap (λ f. f.entries) c.raw.ensures.says in
    let text : c.text-text.result.now ≡ c.args.document.now.text = c.text-text.ensures in
    subst (λ t. AreEntriesCut t 0 (map entry_reading_of c.deref.result.now)) (sym text)
    (subst (λ es. AreEntriesCut c.args.document.now.text 0 es) (sym entries)
    (document_cut c.args.document.now.text says c.raw.ensures.read))

pub returns-clause-text : goal.returns-clause-text
returns-clause-text c =
    let says = c.args.document.now.says in
    let entries : map entry_reading_of c.deref.result.now ≡ says.entries =
    ap (map entry_reading_of) c.deref.ensures.value ∙ ap (λ f. f.entries) c.raw.ensures.says in
    formatted_is string_bytes c.with_entries.result c.args.style.now c.args.document.now.text c.text-text.result.now
    c.line_end.result.now says (map entry_reading_of c.deref.result.now) c.text-text.ensures c.line_end.ensures
    entries c.with_entries.ensures

-- the output, if memory didn't run out, parses to the expected reading
read_is : {S E : Type 0} (bytes : S → List ℕ) (r : Result S E) (style : Style) (text : List ℕ) (says : FileReading) → IsRawReading text says
    → IfOk r (λ new. bytes new ≡ text_in_style style text says) → IfOk r (λ new. IsReadAlike (says_in_order style text says) (bytes new))
read_is bytes (Err error) style text says read all = _
read_is bytes (Ok new) style text says read all =
    subst (λ t. IsReadAlike (says_in_order style text says) t) (sym all) (text_read style text says read)

pub returns-clause-read : goal.returns-clause-read
returns-clause-read c =
    let says = c.args.document.now.says in
    let text = c.args.document.now.text in
    let entries : map entry_reading_of c.deref.result.now ≡ says.entries =
    ap (map entry_reading_of) c.deref.ensures.value ∙ ap (λ f. f.entries) c.raw.ensures.says in
    read_is string_bytes c.with_entries.result c.args.style.now text says c.raw.ensures.read
    (formatted_is string_bytes c.with_entries.result c.args.style.now text c.text-text.result.now c.line_end.result.now
    says (map entry_reading_of c.deref.result.now) c.text-text.ensures c.line_end.ensures entries
    c.with_entries.ensures)
