use Rattle.std.proofs.Common.{◌++◌, ◌∙◌, ap}
use Rattle.json.specs.Print.{print}
use Rattle.serde_json.proofs.Texts.{print-outline}
use Rattle.bib_csl.specs.Json.{content_json}
use Rattle.bib_csl.specs.Tokens.{tokens_of}
use Rattle.bib_csl.proofs.objects.content_text.Goals as goal

pub returns : goal.returns
returns c =
    let d = content_json c.args.content.now in
    c.text_written.ensures
    ∙ ap print (c.in_ok-write_content.ensures.written ∙ ap (λ ts. ts ++ tokens_of d) c.new-out.ensures.tokens)
    ∙ print-outline d
