-- The table of keywords, and the two options that are one keyword each. Section "House text".
use Rattle.std.specs.Prelude.{ℕ, ◌-◌, ◌≤◌, ◌≡◌, Bool, true, false, List, [], ◌∷◌, ◌++◌, take, drop}
use Rattle.forms.specs.Bytes.{text}
use Rattle.definitions.specs.declared.table.Flow.{Flow}
use Rattle.definitions.specs.declared.table.Context.{Context}
use Rattle.definitions.specs.OptionValues.{OptionValue}
use Rattle.definitions.specs.Canonical.{flow_option, context_option, text_if, flow_text, context_text, valued_text}
use Rattle.write_keywords.specs.declared.Keyword.{Keyword}

abbrev pub keywords : List ℕ
keywords =
    text "src_addrdst_addrip_idsrc_portdst_portip_tos"
    ++ (text "ip.total_lengthip.idip.checksumip.ttl"
    ++ (text "!=<=>="
    ++ (text ",uri,header,body,packet,context"
    ++ (text " --flow from_client; --flow from_server;"
    ++ (text " --context uri; --context header; --context body;"
    ++ (text " --context banner; --context host; --context file;"))))))

-- the keyword is a part of the table
abbrev pub Listed : Keyword → Type 0
Listed k = (k.0 ≤ k.1) × (k.1 ≤ 256)

abbrev pub spelled : Keyword → List ℕ
spelled k = take (k.1 - k.0) (drop k.0 keywords)

abbrev pub Spells : Keyword → List ℕ → Type 0
Spells k w = Listed k × (w ≡ spelled k)

abbrev pub given : List OptionValue → Bool
given [] = false
given (e ∷ es) = true

abbrev pub flow_keyword : Flow → List ℕ
flow_keyword f = text_if (given (flow_option f)) (valued_text (text "flow") (flow_text f))

abbrev pub context_keyword : Context → List ℕ
context_keyword c = text_if (given (context_option c)) (valued_text (text "context") (context_text c))
