-- Pieces have at most one styled text, and two first errors of them agree.
use Rattle.std.proofs.Common.{◌≡◌, ℕ, List, [], ◌∷◌, ◌++◌, Bool, refl, sym, ap, ◌∙◌, subst, inl, inr, Some}
use Rattle.std.specs.Str.{chars}
use Rattle.std.specs.Prelude.{map}
use Rattle.bib_chunks.specs.Styled.{Atom}
use Rattle.bib_syntax.specs.declared.raw.ParseError.{ParseError}
use Rattle.bib_syntax.specs.Reading.{Part, Piece}
use Rattle.bib_syntax.specs.Reading.Piece.{literal, abbreviation}
use Rattle.bib_abbreviations.specs.Abbreviations.{Definitions, HoldsName, Reaches, Evaluates, IsOnPath, IsFirstError, AreOneError}
use Rattle.bib_abbreviations.specs.Abbreviations.{Reaches as reaches, Evaluates as evaluates, IsFirstError as first_error}
use Rattle.bib_abbreviations.proofs.AbbreviationFacts.{readable}
use Rattle.bib_contents.proofs.ContentFacts.{read_same}
use Rattle.bib_contents.proofs.FailFacts.{fails_kind, fails_stuck, kind_same}

module _ {definitions : Definitions} {is_verbatim : Bool} where
  -- pieces have at most one styled text
  pub evaluates_same : {pieces : List Piece} {a b : List Atom} → Evaluates definitions is_verbatim pieces a
      → Evaluates definitions is_verbatim pieces b → a ≡ b
  evaluates_same evaluates.none evaluates.none = refl
  evaluates_same (evaluates.text {more = more} x rest) (evaluates.text {first = first} y rest') =
      ap (λ l. l ++ more) (read_same x y) ∙ ap (λ l. first ++ l) (evaluates_same rest rest')
  evaluates_same (evaluates.defined {definition = definition} {more = more} d x rest)
      (evaluates.defined {definition = other} {first = first} d' y rest') =
      let same : other ≡ definition = cc (d, d') in
      ap (λ l. l ++ more) (evaluates_same x (subst (λ pieces. Evaluates definitions is_verbatim pieces first) same y))
      ∙ ap (λ l. first ++ l) (evaluates_same rest rest')
  evaluates_same (evaluates.defined d x rest) (evaluates.month_name absent m rest') = absurd (cc (d, absent))
  evaluates_same (evaluates.month_name absent m rest) (evaluates.defined d x rest') = absurd (cc (d, absent))
  evaluates_same (evaluates.month_name {english = english} {more = more} absent m rest)
      (evaluates.month_name {english = other} absent' m' rest') =
      let same : english ≡ other = cc (m, m') in
      ap (λ e. map Atom.normal (chars e) ++ more) same ∙ ap (λ l. map Atom.normal (chars other) ++ l) (evaluates_same rest rest')

-- a name is defined, and its definition reaches the names among these pieces
pub record LeadsOn (definitions : Definitions) (name : List ℕ) (pieces : List Piece) : Type 0 where
  pub definition : List Piece
  pub is : definitions name ≡ Some definition
  pub leads : (next : List ℕ) → HoldsName pieces next → Reaches definitions definition next

-- the same for each name on a path
pub record AllLeadOn (definitions : Definitions) (path : List (List ℕ)) (pieces : List Piece) : Type 0 where
  pub on : (name : List ℕ) → IsOnPath path name → LeadsOn definitions name pieces

-- this holds for the empty path
pub none_lead_on : {definitions : Definitions} {pieces : List Piece} → AllLeadOn definitions [] pieces
none_lead_on = record { on = λ name on. absurd on }

-- a name that occurs in a piece occurs in each list of pieces that begins with that piece
held_first : (p : Part) (rest : List Piece) (next : List ℕ) → HoldsName (abbreviation p ∷ []) next → HoldsName (abbreviation p ∷ rest) next
held_first p rest next (inl same) = inl same
held_first p rest next (inr held) = absurd held

module _ {definitions : Definitions} where
  leads_after : {path : List (List ℕ)} {rest : List Piece} (piece : Piece) → AllLeadOn definitions path (piece ∷ rest)
      → AllLeadOn definitions path rest
  leads_after (literal p) lead = record {
    on = λ name on. let l = lead.on name on in record { definition = l.definition; is = l.is; leads = λ next held. l.leads next held };
  }
  leads_after (abbreviation p) lead = record {
    on = λ name on.
        let l = lead.on name on in
        record { definition = l.definition; is = l.is; leads = λ next held. l.leads next (inr held) };
  }

  leads_at : {path : List (List ℕ)} {p : Part} {rest definition : List Piece} (name : List ℕ) → definitions p.text ≡ Some definition
      → AllLeadOn definitions path (abbreviation p ∷ rest) → IsOnPath (p.text ∷ path) name → LeadsOn definitions name definition
  leads_at {definition = definition} name d lead (inl same) = record {
    definition = definition;
    is = ap definitions (sym same) ∙ d;
    leads = λ next held. reaches.held held;
  }
  leads_at {p = p} name d lead (inr on) =
      let l = lead.on name on in
      record {
        definition = l.definition;
        is = l.is;
        leads = λ next held. reaches.through (l.leads p.text (inl refl)) d held;
      }

  leads_inside : {path : List (List ℕ)} {p : Part} {rest definition : List Piece} → definitions p.text ≡ Some definition
      → AllLeadOn definitions path (abbreviation p ∷ rest) → AllLeadOn definitions (p.text ∷ path) definition
  leads_inside d lead = record { on = λ name on. leads_at name d lead on }

  -- if each name on a path leads on to pieces, each leads on to the first of them
  leads_first : {path : List (List ℕ)} {p : Part} {rest : List Piece}
      → AllLeadOn definitions path (abbreviation p ∷ rest) → AllLeadOn definitions path (abbreviation p ∷ [])
  leads_first {p = p} {rest = rest} lead = record {
    on = λ name on.
        let l = lead.on name on in
        record { definition = l.definition; is = l.is; leads = λ next held. l.leads next (held_first p rest next held) };
  }

module _ {definitions : Definitions} {is_verbatim : Bool} where
  -- if each name on a path leads on to pieces, the first of which is a name on the path, this name has no styled text
  no_cycle_said : {path : List (List ℕ)} {p : Part} {rest : List Piece} {atoms : List Atom}
      → AllLeadOn definitions path (abbreviation p ∷ rest) → IsOnPath path p.text
      → Evaluates definitions is_verbatim (abbreviation p ∷ []) atoms → ⊥
  no_cycle_said {p = p} lead on x =
      let l = lead.on p.text on in
      (readable x).no_cycle p.text l.definition (reaches.held (inl refl)) l.is (l.leads p.text (inl refl))

  -- the first of pieces with a styled text has one
  said_first : {p : Part} {rest : List Piece} {atoms : List Atom} → Evaluates definitions is_verbatim (abbreviation p ∷ rest) atoms
      → (first : List Atom) × Evaluates definitions is_verbatim (abbreviation p ∷ []) first
  said_first (evaluates.defined d x rest) = (_, evaluates.defined d x evaluates.none)
  said_first (evaluates.month_name absent m rest) = (_, evaluates.month_name absent m evaluates.none)

  said_rest : {piece : Piece} {rest : List Piece} {atoms : List Atom} → Evaluates definitions is_verbatim (piece ∷ rest) atoms
      → (more : List Atom) × Evaluates definitions is_verbatim rest more
  said_rest (evaluates.text x rest) = (_, rest)
  said_rest (evaluates.defined d x rest) = (_, rest)
  said_rest (evaluates.month_name absent m rest) = (_, rest)

  -- if each name on the path leads on to pieces (`AllLeadOn`), and these have a first error, they have no styled text
  pub error_not_said : {path : List (List ℕ)} {pieces : List Piece} {e : ParseError} {atoms : List Atom}
      → IsFirstError definitions is_verbatim path pieces e
      → AllLeadOn definitions path pieces → Evaluates definitions is_verbatim pieces atoms → ⊥
  error_not_said (first_error.unread fails lies) lead (evaluates.text x rest) = fails_stuck fails _ x
  error_not_said (first_error.unknown absent m is) lead (evaluates.defined d x rest) = cc (d, absent)
  error_not_said (first_error.unknown absent m is) lead (evaluates.month_name absent' m' rest) = cc (m, m')
  error_not_said (first_error.cycle on is) lead says = no_cycle_said lead on (said_first says).1
  error_not_said (first_error.inside {definition = definition} off d error) lead
      (evaluates.defined {definition = other} {first = first} d' x rest) =
      let same : other ≡ definition = cc (d, d') in
      error_not_said error (leads_inside d lead) (subst (λ pieces. Evaluates definitions is_verbatim pieces first) same x)
  error_not_said (first_error.inside off d error) lead (evaluates.month_name absent m rest) = cc (d, absent)
  error_not_said (first_error.following {piece = piece} x error) lead says =
      error_not_said error (leads_after piece lead) (said_rest says).1

  -- if each name on the path leads on to pieces (`AllLeadOn`), two first errors of these agree
  error_same : {path : List (List ℕ)} {pieces : List Piece} {e f : ParseError} → AllLeadOn definitions path pieces
      → IsFirstError definitions is_verbatim path pieces e → IsFirstError definitions is_verbatim path pieces f → AreOneError e f
  error_same lead (first_error.unread fails lies) (first_error.unread fails' lies') = inr (fails_kind fails, kind_same fails fails')
  error_same lead (first_error.unread fails lies) (first_error.following (evaluates.text x rest) error) = absurd (fails_stuck fails _ x)
  error_same lead (first_error.following (evaluates.text x rest) error) (first_error.unread fails lies) = absurd (fails_stuck fails _ x)
  error_same lead (first_error.unknown absent m is) (first_error.unknown absent' m' is') = inl (is ∙ sym is')
  error_same lead (first_error.unknown {p = p} absent m is) (first_error.cycle on is') =
      let l = lead.on p.text on in absurd (cc (absent, l.is))
  error_same lead (first_error.unknown absent m is) (first_error.inside off d error) = absurd (cc (absent, d))
  error_same lead (first_error.unknown absent m is) (first_error.following says error) =
      absurd (error_not_said (first_error.unknown absent m is) (leads_first lead) says)
  error_same lead (first_error.cycle {p = p} on is) (first_error.unknown absent m is') =
      let l = lead.on p.text on in absurd (cc (absent, l.is))
  error_same lead (first_error.cycle on is) (first_error.cycle on' is') = inl (is ∙ sym is')
  error_same lead (first_error.cycle on is) (first_error.inside off d error) = absurd (off on)
  error_same lead (first_error.cycle on is) (first_error.following says error) = absurd (no_cycle_said lead on says)
  error_same lead (first_error.inside off d error) (first_error.unknown absent m is) = absurd (cc (absent, d))
  error_same lead (first_error.inside off d error) (first_error.cycle on is) = absurd (off on)
  error_same {path = path} {f = f} lead (first_error.inside {p = p} {definition = definition} off d error)
      (first_error.inside {definition = other} off' d' error') =
      let same : other ≡ definition = cc (d, d') in
      error_same (leads_inside d lead) error (subst (λ pieces. IsFirstError definitions is_verbatim (p.text ∷ path) pieces f) same error')
  error_same lead (first_error.inside off d error) (first_error.following says error') =
      absurd (error_not_said (first_error.inside off d error) (leads_first lead) says)
  error_same lead (first_error.following says error) (first_error.unknown absent m is) =
      absurd (error_not_said (first_error.unknown absent m is) (leads_first lead) says)
  error_same lead (first_error.following says error) (first_error.cycle on is) = absurd (no_cycle_said lead on says)
  error_same lead (first_error.following says error) (first_error.inside off d error') =
      absurd (error_not_said (first_error.inside off d error') (leads_first lead) says)
  error_same lead (first_error.following {piece = piece} says error) (first_error.following says' error') =
      error_same (leads_after piece lead) error error'

  pub error_is_one : {pieces : List Piece} {e f : ParseError} → IsFirstError definitions is_verbatim [] pieces e
      → IsFirstError definitions is_verbatim [] pieces f → AreOneError e f
  error_is_one one other = error_same none_lead_on one other
