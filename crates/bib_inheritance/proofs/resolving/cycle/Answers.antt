use Rattle.std.proofs.Common.{◌≡◌, ap, refl, get_or, length, arith, rules}
use Rattle.std.proofs.lemmas.Option.{slice_get-get_or, slice_get_read}
use Rattle.bib_syntax.specs.declared.raw.ParseError.{ParseError}
use Rattle.bib_syntax.specs.declared.raw.ParseErrorKind.TheVariants.{ReferenceCycle}
use Rattle.bib_inheritance.proofs.resolving.cycle.Goals as goal

pub returns : goal.returns
returns c =
    let spans = c.args.spans.now in
    let index = c.args.index in
    let span = get_or spans index (record { start = 0; end = 0 }) in
    let entry = c.index-entries-index.result in
    let key : c.in_ok-key.key ≡ entry.key = search rules in
    record {
      entry = entry;
      span = span;
      here = slice_get_read c.args.entries.now (length c.args.entries.now) index entry refl c.requires.index c.index-entries-index.is;
      stands = slice_get-get_or spans index (record { start = 0; end = 0 }) (omega (arith, c.requires.index, c.requires.as_long));
      is = ap (λ k. (let f : ParseError = record { span = span; kind = ReferenceCycle k } in f)) key;
    }
