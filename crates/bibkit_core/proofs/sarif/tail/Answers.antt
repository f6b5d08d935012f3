use Rattle.std.proofs.Common.{◌++◌, codes, ap, ◌∙◌}
use Rattle.bibkit_core.proofs.sarif.tail.Goals as goal

pub returns : goal.returns
returns c =
    let (rules, of_codes, are) = c.in_ok-rules.ensures in
    record {
      rules = rules;
      of_codes = of_codes;
      is = c.in_ok-text.ensures.ok
          ∙ ap (λ r. codes "\n],\"tool\":{\"driver\":{\"name\":\"bibkit\",\"version\":\"0.1.0\",\"rules\":[" ++ (r ++ codes "\n]}}}]}\n"))
          (c.as_str.ensures.value ∙ are);
    }
