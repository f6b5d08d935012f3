use Rattle.std.proofs.Common.{length, refl, ap, ◌∙◌, subst}
use Rattle.std.specs.Prelude.{not, ◌==◌}
use Rattle.std.specs.Io.KnownBytes.{Appends}
use Rattle.std.specs.String.{string_bytes}
use Rattle.std.proofs.lemmas.Result.{err_from_is_err_and}
use Rattle.bib_source.specs.Unified.{IsDiff}
use Rattle.bibkit_edits.specs.Edited.IsFileRefused.{no_memory}
use Rattle.bib_source.proofs.MarkFacts.{whole_utf8}
use Rattle.bibkit_edits.proofs.printing.print_difference.Goals as goal

pub difference-requires : goal.difference-requires
difference-requires g c = whole_utf8 c.args.bytes.now c.in_ok-edited.ensures.made.utf8

pub returns-in_err-diff-clause-not_printed : goal.returns-in_err-diff-clause-not_printed
returns-in_err-diff-clause-not_printed g c =
    let p = err_from_is_err_and c.from_residual-in_err-diff.result c.from_residual-in_err-diff.ensures.1 in
    rw (p.1, p.2) (record { refused = no_memory; same = refl })

pub returns-clause-printed : goal.returns-clause-printed
returns-clause-printed g c =
    let text = string_bytes c.in_ok-edited.edited in
    let diff = string_bytes c.in_ok-diff.diff in
    record {
      text = text;
      made = c.in_ok-edited.ensures.made;
      diff = diff;
      is = subst (λ t. IsDiff c.args.name.now c.args.bytes.now t diff) c.deref.ensures c.in_ok-diff.ensures;
      differ = ap not (c.is_empty.ensures ∙ ap (λ t. length t == 0) c.as_str.ensures.value);
      printed =
          subst (λ t. Appends (g.K.Sink.taken c.args.output.now) (g.K.Sink.taken c.hand_over.new.output) t)
          c.deref-2.ensures c.in_ok-hand_over.ensures.taken;
    }
