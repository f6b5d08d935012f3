-- The parts of a list of verbatim chunks with `and` between them format to the texts of these chunks.
use Rattle.std.proofs.Common.{◌≡◌, ℕ, ◌-◌, ◌^◌, Bool, true, false, List, [], ◌∷◌, ◌++◌, map, refl, ap, ◌∙◌}
use Rattle.std.specs.Prelude.{codes}
use Rattle.std.specs.Char.{encode_utf8}
use Rattle.std.specs.List.{flat_map}
use Rattle.std.specs.Str.{chars, trim_start, trim_end}
use Rattle.bib_chunks.specs.declared.chunk.Chunk.TheVariants.{Normal, Verbatim}
use Rattle.bib_chunks.specs.Formatted.{formatted_chars}
use Rattle.bib_chunks.specs.Cuts.{further, between_ands, list_parts, trimmed_chunks, and_list}
use Rattle.bib_chunks.specs.Values.{Value, nowhere, alone}
use Rattle.bib_chunks.specs.Separated.{after_separator, parts_written}
use Rattle.bib_chunks.proofs.SeparatedFacts.{IsSeparator, AreWhole, separated_formats}

-- the chunk ` and ` is cut into two empty chunks
pub and_separates : IsSeparator 3 (between_ands false) (codes " and ")
unfolding chars encode_utf8 trim_start trim_end
and_separates = record {
  before = record { start = further (2 ^ 64 - 1) 0; end = further (further (2 ^ 64 - 1) 0) 0 };
  after = record { start = further (2 ^ 64 - 1) 5; end = further (further (2 ^ 64 - 1) 5) 0 };
  cut = refl;
}

-- verbatim chunks with `and` before each
abbrev after_ands : List (List ℕ) → Value
after_ands texts = flat_map (after_separator (codes " and ")) (map (λ t. alone (Verbatim t)) texts)

-- such a list is unchanged by trimming
untrimmed : (first : Bool) (t : List ℕ) (rest : List (List ℕ))
    → trimmed_chunks first (alone (Verbatim t) ++ after_ands rest) ≡ alone (Verbatim t) ++ after_ands rest
untrimmed first t [] = refl
untrimmed first t (u ∷ rest) = ap (λ xs. nowhere (Verbatim t) ∷ nowhere (Normal (codes " and ")) ∷ xs) (untrimmed false u rest)

-- a verbatim chunk is not cut, and it formats to its text
verbatim_whole : (texts : List (List ℕ)) → AreWhole 3 (between_ands false) (λ t. Verbatim t) texts
verbatim_whole [] = tt
verbatim_whole (t ∷ rest) = (record { one = refl; says = refl }, verbatim_whole rest)

-- the parts of such a list format to its texts
pub parts_format : (t : List ℕ) (rest : List (List ℕ))
    → map formatted_chars (and_list (parts_written (map (λ x. alone (Verbatim x)) (t ∷ rest)))) ≡ map chars (t ∷ rest)
parts_format t rest =
    ap (λ chunks. map formatted_chars (list_parts 3 (between_ands false) chunks)) (untrimmed true t rest)
    ∙ separated_formats 3 (between_ands false) (λ u. Verbatim u) (codes " and ") and_separates t rest (verbatim_whole (t ∷ rest))
