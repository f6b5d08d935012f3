use Rattle.std.proofs.Common.{map, ap, subst, ◌∙◌}
use Rattle.bib_queries.specs.Known.{IsUncited}
use Rattle.bib_syntax.specs.Views.{part_of}
use Rattle.bibkit_core.specs.Compared.{unused_finding}
use Rattle.bibkit_core.proofs.cited.Document.uncited_entries.Goals as goal

pub returns : goal.returns
returns c = record {
  parts = map part_of c.in_ok-uncited.uncited.items;
  uncited =
      subst (λ keys. IsUncited c.args.text.now keys (map part_of c.in_ok-uncited.uncited.items))
      (ap (map (λ k. k.now)) c.deref.ensures.value ∙ c.in_ok-keys.ensures) c.in_ok-uncited.ensures;
  are = c.in_ok-found.ensures ∙ ap (λ l. map unused_finding (map part_of l)) c.deref-2.ensures.value;
}
