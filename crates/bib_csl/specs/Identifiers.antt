-- Meaning: words of public contracts.
-- Identifiers, addresses and archives of an item.
use Rattle.std.specs.Prelude.{ℕ, Bool, ◌==◌, if◌then◌else◌, List, [], ◌∷◌, ◌++◌, length, codes, bytes_eq, eqb, Option, Some, None}
use Rattle.std.specs.List.{starts_with}
use Rattle.std.specs.Option.{unwrap_or}
use Rattle.bib_chunks.specs.Values.{Value, lowercase_text}
use Rattle.bib_entry.specs.declared.entry.Entry.{Entry}
use Rattle.bib_entry.specs.Fields.{field_or}
use Rattle.bib_csl.specs.declared.item.Field.{Field}
use Rattle.bib_csl.specs.declared.variables.Variable.TheVariants.{Doi, Url, Pmid, Isbn, Issn, Archive, ArchiveLocation, CallNumber}
use Rattle.bib_csl.specs.Adding.{given_plain}
use Rattle.bib_csl.specs.Fields.{given}
use Rattle.bib_csl.specs.Tables.{field_in_table}
use Rattle.bib_csl.specs.Texts.{field, shown_field, either}
use Rattle.bib_csl.specs.Ways.{way_as_address}

-- the name of an archive in a field, with ASCII letters in lowercase
unfoldable pub archive_name : Option Value → List ℕ
archive_name None = []
archive_name (Some chunks) = lowercase_text chunks

-- the field that names the archive
abbrev pub archive_field : Entry → Option Value
archive_field entry = field_or entry (codes "eprinttype") (codes "archiveprefix")

-- the archive of the electronic version of an entry, with ASCII letters in lowercase
unfoldable pub archive_of : Entry → List ℕ
archive_of entry = archive_name (archive_field entry)

-- the text of the field `eprint`: the identifier in the archive
unfoldable pub eprint_of : Entry → List ℕ
eprint_of entry = shown_field (field entry (codes "eprint"))

-- the start of the addresses in an archive, or nothing for an archive without a known address
unfoldable pub archive_address : List ℕ → List ℕ
archive_address archive =
    if bytes_eq archive (codes "arxiv") then codes "https://arxiv.org/abs/"
    else if bytes_eq archive (codes "jstor") then codes "https://www.jstor.org/stable/"
    else if bytes_eq archive (codes "pubmed") then codes "https://www.ncbi.nlm.nih.gov/pubmed/"
    else if bytes_eq archive (codes "hdl") then codes "https://hdl.handle.net/"
    else []

-- the address of `eprint` in an archive, or nothing if the archive has no known address or `eprint` is empty
unfoldable pub address_in : List ℕ → List ℕ → List ℕ
address_in archive eprint =
    if length (archive_address archive) == 0 then []
    else if length eprint == 0 then []
    else archive_address archive ++ eprint

-- the field `url`, or else the address in the archive
unfoldable pub named_address : Entry → List ℕ
named_address entry = either (shown_field (field entry (field_in_table Url))) (address_in (archive_of entry) (eprint_of entry))

-- the address: `url`, or else that in the archive, or else `howpublished` if it is an address
unfoldable pub url_of : Entry → List ℕ
url_of entry = either (named_address entry) (way_as_address entry)

-- whether the archive is PubMed, whose numbers have a variable of their own
unfoldable pub is_in_pubmed : Entry → Bool
is_in_pubmed entry = bytes_eq (archive_of entry) (codes "pubmed")

-- the identifier in PubMed, or nothing for another archive
unfoldable pub pubmed_number : Entry → List ℕ
pubmed_number entry = if is_in_pubmed entry then eprint_of entry else []

-- the name of the archive, or nothing for PubMed
unfoldable pub archive_text : Entry → List ℕ
archive_text entry = if is_in_pubmed entry then [] else shown_field (archive_field entry)

-- the identifier in the archive, or nothing for PubMed
unfoldable pub archive_location : Entry → List ℕ
archive_location entry = if is_in_pubmed entry then [] else eprint_of entry

-- a text from the first `10.` on, or `None` without one
abbrev pub from_ten : List ℕ → Option (List ℕ)
from_ten [] = None
from_ten (b ∷ rest) = if starts_with eqb (b ∷ rest) (codes "10.") then Some (b ∷ rest) else from_ten rest

-- the DOI in a text: the text from the first `10.` on. Each DOI begins with `10.` (ISO 26324), so an address or a scheme before it is no
-- part of it. A text without `10.` stays.
unfoldable pub bare_doi : List ℕ → List ℕ
bare_doi text = unwrap_or (from_ten text) text

-- the DOI, the address, the PubMed number, the ISBN and the ISSN
unfoldable pub identifier_fields : Entry → List Field
identifier_fields entry =
    given Doi (bare_doi (shown_field (field entry (field_in_table Doi)))) ++
    (given Url (url_of entry) ++
    (given Pmid (pubmed_number entry) ++
    (given_plain Isbn entry ++
    given_plain Issn entry)))

-- the archive, the location in it, and the call number of a library
unfoldable pub archive_fields : Entry → List Field
archive_fields entry =
    given Archive (archive_text entry) ++
    (given ArchiveLocation (archive_location entry) ++
    given_plain CallNumber entry)
