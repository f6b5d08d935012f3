-- Facts about the styled text of pieces, their first errors, and whether they can be parsed.
use Rattle.std.proofs.Common.{◌≡◌, ℕ, suc, zero, ◌+◌, ◌<◌, ◌≤◌, List, [], ◌∷◌, refl, sym, ap, ◌∙◌, subst, inl, inr, arith, Some, None, Result, Ok, Err}
use Rattle.std.specs.Prelude.{◌⊎◌, IfOk, IfErr, OnOk}
use Rattle.std.specs.Prelude.{bytes_eq, if◌then◌else◌, option_map, Bool, true, false, map}
use Rattle.std.specs.Borrow.{Bor}
use Rattle.std.specs.BTreeMap.{BTreeMap}
use Rattle.std.specs.Global.{Vec}
use Rattle.std.specs.Map.{lookup}
use Rattle.std.specs.Str.{chars}
use Rattle.bib_text.specs.declared.spanned.Spanned.{Spanned}
use Rattle.bib_syntax.specs.declared.raw.RawChunk.{RawChunk}
use Rattle.bib_syntax.specs.Views.{piece_of}
use Rattle.bib_chunks.specs.declared.chunk.Chunk.{Chunk}
use Rattle.bib_chunks.specs.Styled.{Atom}
use Rattle.bib_syntax.specs.declared.raw.ParseError.{ParseError}
use Rattle.bib_contents.specs.Contents.{IsContent}
use Rattle.bib_contents.proofs.FailFacts.{fails_stuck}
use Rattle.bib_syntax.specs.Errors.{out_of_memory}
use Rattle.bib_syntax.specs.Reading.{Part, Piece}
use Rattle.bib_syntax.specs.Reading.Piece.{literal, abbreviation}
use Rattle.bib_abbreviations.specs.Abbreviations.{AreContents, Definitions, month, HoldsName, Reaches, IsContentsError, IsKnown, AreRead, IsReadable, Evaluates, IsOnPath, IsFirstError, definition_among, given_by, pairs_in, sorted_in}
use Rattle.bib_abbreviations.specs.Abbreviations.{Reaches as reaches, Evaluates as evaluates, IsFirstError as first_error}

-- the number of steps of an evaluation
abbrev pub steps : {definitions : Definitions} {is_verbatim : Bool} {pieces : List Piece} {atoms : List Atom}
    → Evaluates definitions is_verbatim pieces atoms → ℕ
steps evaluates.none = 0
steps (evaluates.text x rest) = suc (steps rest)
steps (evaluates.defined d x rest) = suc (steps x + steps rest)
steps (evaluates.month_name d m rest) = suc (steps rest)

-- a name whose definition has a styled text, by fewer than `limit` steps
pub record SaysWithin (definitions : Definitions) (is_verbatim : Bool) (name : List ℕ) (limit : ℕ) : Type 0 where
  pub definition : List Piece
  pub atoms : List Atom
  pub is : definitions name ≡ Some definition
  pub says : Evaluates definitions is_verbatim definition atoms
  pub within : steps says < limit

-- a name that isn't defined, and abbreviates a month
pub record IsMonth (definitions : Definitions) (name : List ℕ) : Type 0 where
  pub english : List ℕ
  pub absent : definitions name ≡ None
  pub is : month name ≡ Some english

-- a name that has a value: a definition with a styled text, by fewer than `limit` steps, or a month
abbrev pub StandsWithin : Definitions → Bool → List ℕ → ℕ → Type 0
StandsWithin definitions is_verbatim name limit = SaysWithin definitions is_verbatim name limit ⊎ IsMonth definitions name

module _ {definitions : Definitions} {is_verbatim : Bool} where
  more_steps : {name : List ℕ} {few many : ℕ} → few ≤ many → StandsWithin definitions is_verbatim name few
      → StandsWithin definitions is_verbatim name many
  more_steps below (inl x) = inl (record { definition = x.definition; atoms = x.atoms; is = x.is; says = x.says; within = omega arith })
  more_steps below (inr x) = inr x

  -- each name among pieces with a styled text has a value, by fewer steps
  pub name_stands : {pieces : List Piece} {atoms : List Atom} {name : List ℕ}
      (x : Evaluates definitions is_verbatim pieces atoms) → HoldsName pieces name
      → StandsWithin definitions is_verbatim name (steps x)
  name_stands evaluates.none held = absurd held
  name_stands (evaluates.text x rest) held = more_steps (omega arith) (name_stands rest held)
  name_stands (evaluates.defined {definition = definition} {first = first} d x rest) (inl same) =
      inl (record { definition = definition; atoms = first; is = ap definitions (sym same) ∙ d; says = x; within = omega arith })
  name_stands (evaluates.defined d x rest) (inr held) = more_steps (omega arith) (name_stands rest held)
  name_stands (evaluates.month_name {english = english} d m rest) (inl same) =
      inr (record { english = english; absent = ap definitions (sym same) ∙ d; is = ap month (sym same) ∙ m })
  name_stands (evaluates.month_name d m rest) (inr held) = more_steps (omega arith) (name_stands rest held)

  -- each literal among pieces with a styled text can be parsed
  pub text_read : {pieces : List Piece} {atoms : List Atom} → Evaluates definitions is_verbatim pieces atoms → AreRead is_verbatim pieces
  text_read evaluates.none text held = absurd held
  text_read (evaluates.text {first = first} x rest) text (inl same) = (first, subst (λ t. IsContent is_verbatim (chars t) first) same x)
  text_read (evaluates.text x rest) text (inr held) = text_read rest text held
  text_read (evaluates.defined d x rest) text held = text_read rest text held
  text_read (evaluates.month_name d m rest) text held = text_read rest text held

  stands_after : {name next : List ℕ} {definition : List Piece} {limit : ℕ}
      → StandsWithin definitions is_verbatim name limit → definitions name ≡ Some definition
      → HoldsName definition next → StandsWithin definitions is_verbatim next limit
  stands_after {next = next} {definition = definition} (inl x) d held =
      let same : definition ≡ x.definition = cc (d, x.is) in
      more_steps (omega (arith, x.within)) (name_stands x.says (subst (λ pieces. HoldsName pieces next) same held))
  stands_after (inr x) d held = absurd (cc (d, x.absent))

  -- each name that pieces with a styled text reach has a value, by fewer steps
  pub reached_stands : {pieces : List Piece} {atoms : List Atom} {name : List ℕ}
      (x : Evaluates definitions is_verbatim pieces atoms) → Reaches definitions pieces name
      → StandsWithin definitions is_verbatim name (steps x)
  reached_stands x (reaches.held held) = name_stands x held
  reached_stands x (reaches.through reached d held) = stands_after (reached_stands x reached) d held

  cycle_step : {name : List ℕ} {definition : List Piece} {bound : ℕ} (limit : ℕ) → definitions name ≡ Some definition → bound ≤ limit
      → Reaches definitions definition name
      → ((other : List Piece) (atoms : List Atom) (y : Evaluates definitions is_verbatim other atoms)
      → definitions name ≡ Some other → steps y < limit
      → Reaches definitions other name → ⊥)
      → StandsWithin definitions is_verbatim name bound → ⊥
  cycle_step {name} {definition} limit d below reached next (inl y) =
      let same : definition ≡ y.definition = cc (d, y.is) in
      next y.definition y.atoms y.says y.is (omega (arith, y.within)) (subst (λ pieces. Reaches definitions pieces name) same reached)
  cycle_step limit d below reached next (inr y) = absurd (cc (d, y.absent))

  -- a name whose definition has a styled text isn't reached from its definition
  pub no_cycle_at : {name : List ℕ} (limit : ℕ) (definition : List Piece) (atoms : List Atom)
      (x : Evaluates definitions is_verbatim definition atoms)
      → definitions name ≡ Some definition → steps x < limit → Reaches definitions definition name → ⊥
  no_cycle_at zero definition atoms x d below reached = absurd (omega arith)
  no_cycle_at (suc limit) definition atoms x d below reached =
      cycle_step limit d (omega arith) reached (λ other more y. no_cycle_at limit other more y) (reached_stands x reached)

  known_by : {name : List ℕ} {limit : ℕ} → StandsWithin definitions is_verbatim name limit → IsKnown definitions name
  known_by (inl x) = inl (x.definition, x.is)
  known_by (inr x) = inr (x.english, x.is)

  cycle_by : {name : List ℕ} {definition : List Piece} {limit : ℕ} → definitions name ≡ Some definition
      → Reaches definitions definition name
      → StandsWithin definitions is_verbatim name limit → ⊥
  cycle_by {limit = limit} d reached x = cycle_step limit d (omega arith) reached (λ other more y. no_cycle_at limit other more y) x

  texts_by : {name : List ℕ} {definition : List Piece} {limit : ℕ} → definitions name ≡ Some definition
      → StandsWithin definitions is_verbatim name limit
      → AreRead is_verbatim definition
  texts_by {definition = definition} d (inl x) =
      let same : x.definition ≡ definition = cc (d, x.is) in
      subst (λ pieces. AreRead is_verbatim pieces) same (text_read x.says)
  texts_by d (inr x) = absurd (cc (d, x.absent))

  -- pieces with a styled text can be parsed
  pub readable : {field : List Piece} {atoms : List Atom} → Evaluates definitions is_verbatim field atoms
      → IsReadable definitions is_verbatim field
  readable x = record {
    known = λ name reached. known_by (reached_stands x reached);
    no_cycle = λ name definition reached d again. cycle_by d again (reached_stands x reached);
    texts = text_read x;
    inner_texts = λ name definition reached d. texts_by d (reached_stands x reached);
  }

-- a field reaches a defined name, and the definition reaches the names among these pieces
pub record Leads (definitions : Definitions) (field : List Piece) (name : List ℕ) (pieces : List Piece) : Type 0 where
  pub definition : List Piece
  pub is : definitions name ≡ Some definition
  pub reached : Reaches definitions field name
  pub leads : (next : List ℕ) → HoldsName pieces next → Reaches definitions definition next

-- a field reaches each name in these pieces, each name in `path` leads to them (`Leads`), and their literals can be parsed
pub record IsMet (definitions : Definitions) (is_verbatim : Bool) (field : List Piece) (path : List (List ℕ))
    (pieces : List Piece) : Type 0 where
  pub names : (name : List ℕ) → HoldsName pieces name → Reaches definitions field name
  pub texts : AreRead is_verbatim pieces
  pub on_path : (name : List ℕ) → IsOnPath path name → Leads definitions field name pieces

-- if each name on a path leads to `rest`, in which `met` occurs, each one on the path extended by `met` leads to the definition of `met`
leads_inside : {definitions : Definitions} {field rest definition : List Piece} (name met : List ℕ)
    (path : List (List ℕ)) → definitions met ≡ Some definition
    → Reaches definitions field met → ((other : List ℕ) → IsOnPath path other → Leads definitions field other rest) → HoldsName rest met
    → IsOnPath (met ∷ path) name → Leads definitions field name definition
leads_inside {definitions} {field} {definition = definition} name met path d reached before held (inl same) = record {
  definition = definition;
  is = ap definitions (sym same) ∙ d;
  reached = subst (λ n. Reaches definitions field n) same reached;
  leads = λ next h. reaches.held h;
}
leads_inside name met path d reached before held (inr on) = let l = before name on in record {
  definition = l.definition;
  is = l.is;
  reached = l.reached;
  leads = λ next h. reaches.through (l.leads _ held) d h;
}

-- a known name is defined or is a month
unknown_clash : (definitions : Definitions) (name : List ℕ) → IsKnown definitions name → definitions name ≡ None → month name ≡ None → ⊥
unknown_clash definitions name (inl x) d m = cc (d, x.1)
unknown_clash definitions name (inr x) d m = cc (m, x.1)

module _ {definitions : Definitions} {is_verbatim : Bool} {field : List Piece} where
  met_inside : {p : Part} {path : List (List ℕ)} {rest definition : List Piece} → IsReadable definitions is_verbatim field
      → IsMet definitions is_verbatim field path (abbreviation p ∷ rest) → definitions p.text ≡ Some definition
      → IsMet definitions is_verbatim field (p.text ∷ path) definition
  met_inside {p} {definition = definition} can met d = let reached = met.names p.text (inl refl) in record {
    names = λ name held. reaches.through reached d held;
    texts = can.inner_texts p.text definition reached d;
    on_path = λ name on. leads_inside name p.text _ d reached met.on_path (inl refl) on;
  }

  met_after : {path : List (List ℕ)} {piece : Piece} {rest : List Piece} → IsMet definitions is_verbatim field path (piece ∷ rest)
      → IsMet definitions is_verbatim field path rest
  met_after {piece = literal p} met = record {
    names = λ name held. met.names name held;
    texts = λ text held. met.texts text (inr held);
    on_path = λ name on.
        let l = met.on_path name on in
        record { definition = l.definition; is = l.is; reached = l.reached; leads = λ next held. l.leads next held };
  }
  met_after {piece = abbreviation p} met = record {
    names = λ name held. met.names name (inr held);
    texts = λ text held. met.texts text held;
    on_path = λ name on.
        let l = met.on_path name on in
        record {
          definition = l.definition;
          is = l.is;
          reached = l.reached;
          leads = λ next held. l.leads next (inr held);
        };
  }

  no_error_met : {path : List (List ℕ)} {pieces : List Piece} {e : ParseError} → IsReadable definitions is_verbatim field
      → IsMet definitions is_verbatim field path pieces → IsFirstError definitions is_verbatim path pieces e → ⊥
  no_error_met can met (first_error.unread {p = p} fails lies) = let x = met.texts p.text (inl refl) in fails_stuck fails x.0 x.1
  no_error_met can met (first_error.unknown {p = p} d m is) =
      unknown_clash definitions p.text (can.known p.text (met.names p.text (inl refl))) d m
  no_error_met can met (first_error.cycle {p = p} on is) =
      let l = met.on_path p.text on in can.no_cycle p.text l.definition l.reached l.is (l.leads p.text (inl refl))
  no_error_met can met (first_error.inside off d error) = no_error_met can (met_inside can met d) error
  no_error_met can met (first_error.following x error) = no_error_met can (met_after met) error

  -- a field with a first error can't be parsed
  pub not_readable : {e : ParseError} → IsFirstError definitions is_verbatim [] field e → IsReadable definitions is_verbatim field → ⊥
  not_readable error can =
      no_error_met can
      (record { names = λ name held. reaches.held held; texts = can.texts; on_path = λ name on. absurd on }) error

-- a field whose parsing returned a value can be parsed
pub contents_readable : {E : Type 0} (definitions : Definitions) (is_verbatim same_rule : Bool) (field : List Piece)
    (r : Result (List (Spanned Chunk)) E) → is_verbatim ≡ same_rule
    → IfOk r (AreContents definitions is_verbatim field) → OnOk r (IsReadable definitions same_rule field)
contents_readable definitions is_verbatim same_rule field (Ok x) same are =
    subst (λ v. IsReadable definitions v field) same (readable are.says)
contents_readable definitions is_verbatim same_rule field (Err e) same are = tt

-- an error other than out of memory that parsing a field returned is its first error, and the field can't be parsed
pub refused_not_readable : {T : Type 0} (definitions : Definitions) (is_verbatim same_rule : Bool) (field : List Piece)
    (r : Result T ParseError) → is_verbatim ≡ same_rule
    → IfErr r (λ e. (e ≡ out_of_memory) ⊎ IsFirstError definitions is_verbatim [] field e)
    → IfErr r (λ e. (e ≡ out_of_memory) ⊎ IsContentsError definitions same_rule field e)
refused_not_readable definitions is_verbatim same_rule field (Ok x) same refused = tt
refused_not_readable definitions is_verbatim same_rule field (Err e) same (inl memory) = inl memory
refused_not_readable definitions is_verbatim same_rule field (Err e) same (inr error) =
    let moved = subst (λ v. IsFirstError definitions v [] field e) same error in inr (moved, not_readable moved)

-- definitions that are equal for each name are equal
pub definitions_same : {one two : Definitions} → ((name : List ℕ) → one name ≡ two name) → one ≡ two
definitions_same same = λ i. λ name. same name i

-- the definition of a name among entries is the one in their pairs
given_among : (es : List (Bor (List ℕ) × Bor (Vec (Spanned RawChunk)))) (name : List ℕ)
    → definition_among es name ≡ given_by (map (λ e. (e.0.now, map piece_of e.1.now.items)) es) name
given_among [] name = refl
given_among (e ∷ es) name =
    elim (bytes_eq name e.0.now) as (λ b. option_map (λ (f : Bor (Vec (Spanned RawChunk))). map piece_of f.now.items)
    (if b then Some e.1 else lookup (λ key. bytes_eq name key.now) es)
    ≡ (if b then Some (map piece_of e.1.now.items) else given_by (map (λ e. (e.0.now, map piece_of e.1.now.items)) es) name)) [
      | true ↦ refl
      | false ↦ given_among es name
    ]

-- the definitions of a sorted map are those of its pairs
pub sorted_given : (m : BTreeMap (Bor (List ℕ)) (Bor (Vec (Spanned RawChunk)))) → sorted_in m ≡ given_by (pairs_in m)
sorted_given m = definitions_same (given_among m.entries)

-- the contents of a field are also its contents for equal definitions and an equal flag
pub contents_same_rule : {E : Type 0} (definitions same_definitions : Definitions) (is_verbatim same_rule : Bool)
    (field : List Piece) (r : Result (List (Spanned Chunk)) E)
    → definitions ≡ same_definitions → is_verbatim ≡ same_rule
    → IfOk r (AreContents definitions is_verbatim field) → IfOk r (AreContents same_definitions same_rule field)
contents_same_rule definitions same_definitions is_verbatim same_rule field r same rule are =
    subst (λ v. IfOk r (AreContents same_definitions v field)) rule
    (subst (λ d. IfOk r (AreContents d is_verbatim field)) same are)

-- the error of a field is also its error for equal definitions
pub refused_same_rule : {T : Type 0} (definitions same_definitions : Definitions) (is_verbatim : Bool)
    (field : List Piece) (r : Result T ParseError) → definitions ≡ same_definitions
    → IfErr r (λ e. (e ≡ out_of_memory) ⊎ IsFirstError definitions is_verbatim [] field e)
    → IfErr r (λ e. (e ≡ out_of_memory) ⊎ IsFirstError same_definitions is_verbatim [] field e)
refused_same_rule definitions same_definitions is_verbatim field r same refused =
    subst (λ d. IfErr r (λ e. (e ≡ out_of_memory) ⊎ IsFirstError d is_verbatim [] field e)) same refused
