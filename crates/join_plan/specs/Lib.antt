pub mod lead_marks
pub mod join_leads
pub mod place_plans
pub mod Plans
