pub mod ConditionRests
