-- Meaning: words of public contracts.
-- Fields that other programs write for themselves.
use Rattle.std.specs.Prelude.{ℕ, Bool, ◌||◌, List, ◌++◌, length, take}
use Rattle.std.specs.List.{list_any}
use Rattle.std.specs.Str.{str_eq_ignore_ascii_case}
use Rattle.bib_tables.specs.Requirements.{Names, fields}
use Rattle.bib_findings.specs.Nearest.{is_known_name}

-- names of such fields, by program: BibNet and TUG's files; MathSciNet and zbMATH; DBLP; JabRef; BibDesk; CiteULike; ACM; ADS and
-- INSPIRE; PubMed; other reference managers; Compendex; Web of Science
abbrev pub foreign_fields : Names
foreign_fields =
    fields "acknowledgement bibdate bibsource ajournal coden fjournal issn-l isbn-13 journal-url lccn remark subject tableofcontents"
    ++ (fields "author-dates subject-dates confnote bookpages shorttableofcontents"
    ++ (fields "mrclass mrkey mrnumber mrreviewer msc zblnumber"
    ++ (fields "biburl timestamp"
    ++ (fields "citationkey comment creationdate groups modificationdate owner printed priority qualityassured ranking readstatus relevance"
    ++ (fields "review username"
    ++ (fields "date-added date-modified local-url rating read"
    ++ (fields "posted-at"
    ++ (fields "acmid issue_date"
    ++ (fields "adsnote adsurl reportnumber slaccitation"
    ++ (fields "pmcid pmid chemicals completed issn-linking nlm-id pubmodel revised"
    ++ (fields "abstractnote accessdate contents copyright internal-note keyword-list price rights source url-date"
    ++ (fields "classification classcodes journalabr affiliation affiliationaddress conference conferenceyear editoraddress"
    ++ (fields "editoraffiliation meetingaddress meetingdate meetingdate2 sponsor publisherinfo thesaurus pubcountry"
    ++ (fields "author-email doc-delivery-number funding-acknowledgement funding-text journal-iso keywords-plus"
    ++ (fields "number-of-cited-references orcid-numbers research-areas researcherid-numbers times-cited unique-id"
    ++ fields "web-of-science-categories")))))))))))))))

-- the beginnings of other names that such programs use
abbrev pub foreign_prefixes : Names
foreign_prefixes = fields "bdsk- citeulike- jabref- jstor_ mendeley- zotero-"

-- whether a name begins with a text, in any ASCII case
abbrev pub begins_in_any_case : List ℕ → List ℕ → Bool
begins_in_any_case prefix name = str_eq_ignore_ascii_case prefix (take (length prefix) name)

-- whether other programs write a field of this name for themselves, in any ASCII case
abbrev pub is_foreign : List ℕ → Bool
is_foreign name =
    is_known_name foreign_fields name || list_any (λ prefix. begins_in_any_case prefix name) foreign_prefixes
