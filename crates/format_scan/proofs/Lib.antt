pub mod SurveyLaws
pub mod UnionLaws
