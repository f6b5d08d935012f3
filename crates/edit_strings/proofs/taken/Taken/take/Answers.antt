use Rattle.std.proofs.Common.{true, cond, ap, ◌∙◌}
use Rattle.std.specs.Prelude.{bytes_eq}
use Rattle.std.specs.Str.{str_to_ascii_lowercase}
use Rattle.std.specs.String.{string_bytes}
use Rattle.std.proofs.lemmas.Map.Text.{btree_set_updates_text}
use Rattle.bib_text.proofs.BoolFacts.{or_cond}
use Rattle.bib_syntax.specs.Grammar.{is_word}
use Rattle.edit_strings.specs.Collecting.{is_taken}
use Rattle.edit_strings.proofs.taken.Taken.take.Goals as goal

pub returns : goal.returns
returns c = λ other.
    btree_set_updates_text (string_bytes c.in_ok-to_ascii_lowercase.field-0) c.args.self.now.names c.insert.new.self
    true c.in_ok-insert.ensures.updates (str_to_ascii_lowercase other)
    ∙ ap (λ k. cond (bytes_eq k (str_to_ascii_lowercase other)) true (is_taken c.args.self.now other)) c.in_ok-to_ascii_lowercase.ensures.ok
    ∙ or_cond (is_word c.args.name.now other) (is_taken c.args.self.now other)
