use Rattle.std.proofs.Common.{◌++◌, ◌∙◌, ap}
use Rattle.json.specs.Print.{print}
use Rattle.serde_json.proofs.Texts.{print-outline}
use Rattle.bib_csl.specs.Json.{json_of}
use Rattle.bib_csl.specs.Tokens.{tokens_of}
use Rattle.bib_csl.proofs.objects.text_of_item.Goals as goal

pub returns : goal.returns
returns c =
    let d = json_of c.args.item.now in
    c.text_written.ensures
    ∙ ap print (c.in_ok-write_item.ensures.written ∙ ap (λ ts. ts ++ tokens_of d) c.new-out.ensures.tokens)
    ∙ print-outline d
