use Rattle.std.proofs.Common.{◌≡◌, ◌++◌, false, List, ℕ, codes, cond, sym, ap, ◌∙◌}
use lib.Dec.{eqb}
use Rattle.std.specs.List.{ends_with}
use Rattle.std.specs.String.{string_bytes}
use Rattle.std.proofs.lemmas.Str.Pattern.{ends_text}
use Rattle.edit_format.specs.Delimited.{delimited}
use Rattle.edit_format.specs.declared.style.Delimiters.TheVariants.{Keep}
use Rattle.edit_strings.proofs.elements.push_literal.Goals as goal

-- a literal after neither an opening brace nor a quote has no delimiters
neither : (before content : List ℕ) → ends_with eqb before (codes "{") ≡ false
    → ends_with eqb before (codes "\"") ≡ false → delimited Keep before content ≡ content
neither before content no_brace no_quote =
    ap
    (λ b.
    cond b (codes "{" ++ (content ++ codes "}"))
    (cond (ends_with eqb before (codes "\"")) (codes "\"" ++ (content ++ codes "\"")) content)) no_brace
    ∙ ap (λ b. cond b (codes "\"" ++ (content ++ codes "\"")) content) no_quote

pub returns : goal.returns
returns c =
    let before = c.args.before.now in
    let content = c.args.content.now in
    c.in_ok-push_str-7.ensures.bytes
    ∙ ap (λ t. string_bytes c.args.new.now ++ t)
    (sym
    (neither before content
    (sym (ends_text c.ends_with.result (codes "{") before c.ends_with.ensures.cases) ∙ c.if-ends_with.false)
    (sym (ends_text c.ends_with-2.result (codes "\"") before c.ends_with-2.ensures.cases)
    ∙ c.if-ends_with-2.false)))
