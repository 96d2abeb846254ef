use Rattle.std.specs.Str.{chars}
use Rattle.css_rules.specs.declared.sheet.Sheet.{Sheet}
use Rattle.cascade_model.specs.declared.user_agent.TheConstants.{USER_AGENT_SHEET}
use Rattle.cascade_core.proofs.UserAgentSheet.{not-limited, fault-is}
use Rattle.cascade_core.proofs.user_agent.user_agent_sheet.Goals as goal

pub no_memory-requires : goal.no_memory-requires
no_memory-requires c =
    fault-is Sheet c.in-Err.fault (chars USER_AGENT_SHEET.now) not-limited c.in-Err.ensures.limit
