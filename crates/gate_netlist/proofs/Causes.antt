-- A cause that applies is an answer.
use Rattle.std.proofs.Common.{◌≡◌, ℕ, Bool, true, false, cond, List, Option, Some, None, Result, Ok, Err, IfSome}
use Rattle.toml.specs.Data.{Members}
use Rattle.gate_netlist.specs.declared.fault.SettingsFault.{SettingsFault}
use Rattle.gate_netlist.specs.declared.fault.SettingsFault.TheVariants.{Toml, UnknownKey, UnknownNet, BadDelay, BadCut, Memory, BadClock, BadInit}
use Rattle.gate_netlist.specs.Netlist.{Netlist}
use Rattle.gate_netlist.specs.Settings.{IsDocument}
use Rattle.gate_netlist.specs.Causes.{cause_of, has_unknown_key, has_unknown_net, has_bad_delay, has_bad_block, has_bad_clock, has_bad_init}
use Rattle.gate_netlist.specs.Circuit.{Design}
use Rattle.gate_netlist.specs.Meaning.{IsSettled, IsRead, IsSettledBy}
use Rattle.gate_netlist.specs.Refusals.{IsOfDocument}

-- a cause, if any, that some test of a document gives
abbrev IsTested : Option SettingsFault → Type 0
IsTested o = (o ≡ Some Toml → ⊥) × IfSome o IsOfDocument

tested : (a b c d e f : Bool) → IsTested (cond a (Some UnknownKey) (cond b (Some UnknownNet) (cond c (Some BadDelay) (cond d (Some BadCut) (cond e (Some BadClock) (cond f (Some BadInit) None))))))
tested true b c d e f = (λ h. cc, λ h. cc)
tested false true c d e f = (λ h. cc, λ h. cc)
tested false false true d e f = (λ h. cc, λ h. cc)
tested false false false true e f = (λ h. cc, λ h. cc)
tested false false false false true f = (λ h. cc, λ h. cc)
tested false false false false false true = (λ h. cc, λ h. cc)
tested false false false false false false = (λ h. cc, tt)

cause_of-tested : (b : Netlist) (ms : Members) → IsTested (cause_of b ms)
unfolding cause_of
cause_of-tested b ms = tested (has_unknown_key ms) (has_unknown_net b ms) (has_bad_delay ms) (has_bad_block ms) (has_bad_clock b ms) (has_bad_init ms)

pub cause_of-of_document : (b : Netlist) (ms : Members) → IfSome (cause_of b ms) IsOfDocument
cause_of-of_document b ms = (cause_of-tested b ms).1

pub answer_of_cause : (b : Netlist) (text : List ℕ) (ms : Members) (fault : SettingsFault) → IsDocument text ms → cause_of b ms ≡ Some fault → IsSettled b text (Err fault)
answer_of_cause b text ms Toml d h = absurd ((cause_of-tested b ms).0 h)
answer_of_cause b text ms UnknownKey d h = (ms, d, h)
answer_of_cause b text ms UnknownNet d h = (ms, d, h)
answer_of_cause b text ms BadDelay d h = (ms, d, h)
answer_of_cause b text ms BadCut d h = (ms, d, h)
answer_of_cause b text ms Memory d h = tt
answer_of_cause b text ms BadClock d h = (ms, d, h)
answer_of_cause b text ms BadInit d h = (ms, d, h)

-- a cause that applies is an answer to a document
pub cause_settled : (b : Netlist) (ms : Members) (fault : SettingsFault) → cause_of b ms ≡ Some fault → IsSettledBy b ms (Err fault)
cause_settled b ms Toml h = h
cause_settled b ms UnknownKey h = h
cause_settled b ms UnknownNet h = h
cause_settled b ms BadDelay h = h
cause_settled b ms BadCut h = h
cause_settled b ms Memory h = tt
cause_settled b ms BadClock h = h
cause_settled b ms BadInit h = h

-- what is answered to a text that is a document is what is answered to this
pub settled_text : (b : Netlist) (text : List ℕ) (ms : Members) → IsDocument text ms → (r : Result Design SettingsFault) → IsSettledBy b ms r → IsSettled b text r
settled_text b text ms is (Ok d) h = (ms, is, h.0, h.1)
settled_text b text ms is (Err Toml) h = answer_of_cause b text ms Toml is h
settled_text b text ms is (Err UnknownKey) h = answer_of_cause b text ms UnknownKey is h
settled_text b text ms is (Err UnknownNet) h = answer_of_cause b text ms UnknownNet is h
settled_text b text ms is (Err BadDelay) h = answer_of_cause b text ms BadDelay is h
settled_text b text ms is (Err BadCut) h = answer_of_cause b text ms BadCut is h
settled_text b text ms is (Err Memory) h = tt
settled_text b text ms is (Err BadClock) h = answer_of_cause b text ms BadClock is h
settled_text b text ms is (Err BadInit) h = answer_of_cause b text ms BadInit is h

-- a text that is no document is refused as one
pub unread_text : (b : Netlist) (text : List ℕ) (fault : SettingsFault) → IsRead text (Err fault) → IsSettled b text (Err fault)
unread_text b text Toml h = h
unread_text b text Memory h = tt
unread_text b text UnknownKey h = absurd h
unread_text b text UnknownNet h = absurd h
unread_text b text BadDelay h = absurd h
unread_text b text BadCut h = absurd h
unread_text b text BadClock h = absurd h
unread_text b text BadInit h = absurd h
